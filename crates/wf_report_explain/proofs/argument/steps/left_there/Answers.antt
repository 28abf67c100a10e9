use Rattle.std.proofs.Common.{filter, ◌∙◌}
use Rattle.wf_report_explain.proofs.argument.steps.left_there.Goals as goal

pub returns : goal.returns
returns c = c.intersection.ensures ∙ (λ i. filter (λ v. c.values_at.ensures v i) (c.left.ensures i))
