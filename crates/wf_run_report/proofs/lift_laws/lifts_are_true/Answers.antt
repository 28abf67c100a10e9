use Rattle.wf_run_report.proofs.LiftTruth.{lifts_true}
use Rattle.wf_run_report.proofs.lift_laws.lifts_are_true.Goals as goal

pub returns : goal.returns
returns c = lifts_true
