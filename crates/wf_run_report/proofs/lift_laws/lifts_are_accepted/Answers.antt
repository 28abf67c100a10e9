use Rattle.wf_run_report.proofs.LiftTruth.{lifts_accepted}
use Rattle.wf_run_report.proofs.lift_laws.lifts_are_accepted.Goals as goal

pub returns : goal.returns
returns c = lifts_accepted
