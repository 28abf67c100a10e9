use Rattle.wf_run_verify.proofs.RefutationsAreTrue.{refutations_true}
use Rattle.wf_run_verify.proofs.laws.refutations_are_true.Goals as goal

pub returns : goal.returns
returns c = refutations_true
