use Rattle.wf_run_branches.proofs.Counts.{branch_counted}
use Rattle.wf_run_branches.specs.Solving.{IsSolvedIn}
use Rattle.wf_run_branches.proofs.laws.branch_solving_is_counted.Goals as goal

pub returns : goal.returns
returns c rounds branch form = branch_counted (IsSolvedIn form) rounds branch
