use Rattle.wf_run_verify.proofs.HintCounts.{hinted_refutations_true}
use Rattle.wf_run_verify.proofs.laws.hinted_refutations_are_true.Goals as goal

pub returns : goal.returns
returns c = hinted_refutations_true
