use Rattle.wf_run_report.proofs.ExplanationsAreTrue.{explained_true}
use Rattle.wf_run_report.proofs.explain_laws.explanations_are_true.Goals as goal

pub returns : goal.returns
returns c = explained_true
