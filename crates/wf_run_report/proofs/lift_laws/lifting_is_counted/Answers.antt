use Rattle.wf_run_report.proofs.LiftCounts.{lifting_counted}
use Rattle.wf_run_report.proofs.lift_laws.lifting_is_counted.Goals as goal

pub returns : goal.returns
returns c = lifting_counted
