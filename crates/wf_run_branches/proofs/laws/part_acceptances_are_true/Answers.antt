use Rattle.wf_run_branches.proofs.CheckedParts.{part_acceptances_true}
use Rattle.wf_run_branches.proofs.laws.part_acceptances_are_true.Goals as goal

pub returns : goal.returns
returns c = part_acceptances_true
