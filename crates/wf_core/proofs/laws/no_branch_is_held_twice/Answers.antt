use Rattle.wf_core.proofs.BranchHolders.{held_is_held, one_worker, one_branch}
use Rattle.wf_core.proofs.laws.no_branch_is_held_twice.Goals as goal

pub returns : goal.returns
returns c = record { status = held_is_held; one_worker = one_worker; one_branch = one_branch }
