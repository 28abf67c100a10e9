use Rattle.wf_run_branches.proofs.CheckedParts.{part_checked}
use Rattle.wf_run_branches.proofs.laws.part_checking_is_counted.Goals as goal

pub returns : goal.returns
returns c = part_checked
