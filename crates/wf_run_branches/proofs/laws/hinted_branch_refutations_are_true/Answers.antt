use Rattle.wf_run_branches.proofs.HintedBranches.{hinted_branch_refutations_true}
use Rattle.wf_run_branches.proofs.laws.hinted_branch_refutations_are_true.Goals as goal

pub returns : goal.returns
returns c = hinted_branch_refutations_true
