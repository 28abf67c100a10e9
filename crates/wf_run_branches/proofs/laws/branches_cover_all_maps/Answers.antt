use Rattle.wf_run_branches.proofs.BranchProofs.{branches_cover}
use Rattle.wf_run_branches.proofs.laws.branches_cover_all_maps.Goals as goal

pub returns : goal.returns
returns c = branches_cover
