use Rattle.std.proofs.Common.{◌∙◌, sym}
use Rattle.wf_sat_check.proofs.OfLrat.LiteralLemmas.{is_on-codes}
use Rattle.wf_sat_check.proofs.lrat.trail.is_true.Goals as goal

pub returns : goal.returns
returns c = c.is_true.ensures.exact ∙ sym (is_on-codes c.args.trail.now c.args.literal)
