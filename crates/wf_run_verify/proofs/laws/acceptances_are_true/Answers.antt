use Rattle.wf_run_verify.proofs.Headline.{acceptances_true}
use Rattle.wf_run_verify.proofs.laws.acceptances_are_true.Goals as goal

pub returns : goal.returns
returns c = acceptances_true
