use Rattle.wf_run_branches.proofs.JoinedTruth.{joining_counted}
use Rattle.wf_run_branches.proofs.laws.joining_is_counted.Goals as goal

pub returns : goal.returns
returns c = joining_counted
