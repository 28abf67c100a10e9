use Rattle.wf_run_verify.proofs.CertificateCounts.{certified}
use Rattle.wf_run_verify.proofs.laws.verifying_certificates_is_counted.Goals as goal

pub returns : goal.returns
returns c = certified
