use Rattle.wf_run_verify.proofs.Headline.{decisions_true}
use Rattle.wf_run_verify.proofs.laws.decisions_are_true.Goals as goal

pub returns : goal.returns
returns c = decisions_true
