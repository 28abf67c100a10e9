use Rattle.wf_run_branches.proofs.Counts.{branch_proved}
use Rattle.wf_run_branches.proofs.laws.branch_proving_is_counted.Goals as goal

pub returns : goal.returns
returns c = branch_proved
