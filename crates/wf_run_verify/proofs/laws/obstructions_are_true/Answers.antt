use Rattle.wf_run_verify.proofs.CertificatesAreTrue.{obstructions_true}
use Rattle.wf_run_verify.proofs.laws.obstructions_are_true.Goals as goal

pub returns : goal.returns
returns c = obstructions_true
