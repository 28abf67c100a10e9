use Rattle.wf_run_verify.proofs.ProofCounts.{proved}
use Rattle.wf_run_verify.proofs.laws.proving_is_counted.Goals as goal

pub returns : goal.returns
returns c = proved
