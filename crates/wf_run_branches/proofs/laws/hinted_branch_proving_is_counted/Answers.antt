use Rattle.wf_run_branches.proofs.HintedBranches.{branch_proved_by_hints}
use Rattle.wf_run_branches.proofs.laws.hinted_branch_proving_is_counted.Goals as goal

pub returns : goal.returns
returns c = branch_proved_by_hints
