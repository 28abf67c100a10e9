use Rattle.wf_run_branches.proofs.SolvedReports.{found_accepted}
use Rattle.wf_run_branches.proofs.laws.solved_reports_are_accepted.Goals as goal

pub returns : goal.returns
returns c = found_accepted
