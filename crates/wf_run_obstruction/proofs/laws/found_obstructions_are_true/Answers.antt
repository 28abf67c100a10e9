use Rattle.wf_run_obstruction.proofs.SearchRuns.{found_true}
use Rattle.wf_run_obstruction.proofs.laws.found_obstructions_are_true.Goals as goal

pub returns : goal.returns
returns c = found_true
