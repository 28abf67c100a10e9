use Rattle.wf_run_branches.proofs.BranchProofs.{branch_refutations_true}
use Rattle.wf_run_branches.proofs.laws.branch_refutations_are_true.Goals as goal

pub returns : goal.returns
returns c = branch_refutations_true
