use Rattle.wf_run_branches.specs.Branches.{IsBranchTextOf}
use Rattle.wf_run_branches.proofs.Counts.{branch_counted}
use Rattle.wf_run_branches.proofs.laws.branch_asking_is_counted.Goals as goal

pub returns : goal.returns
returns c text_of = branch_counted (IsBranchTextOf text_of)
