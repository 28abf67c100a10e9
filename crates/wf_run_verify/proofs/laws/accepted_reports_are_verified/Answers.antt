use Rattle.wf_run_verify.proofs.CertificatesAreTrue.{reports_verified}
use Rattle.wf_run_verify.proofs.laws.accepted_reports_are_verified.Goals as goal

pub returns : goal.returns
returns c = reports_verified
