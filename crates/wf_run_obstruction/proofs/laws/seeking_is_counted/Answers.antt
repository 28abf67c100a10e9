use Rattle.wf_run_obstruction.proofs.SearchRuns.{seeking_counted}
use Rattle.wf_run_obstruction.proofs.laws.seeking_is_counted.Goals as goal

pub returns : goal.returns
returns c = seeking_counted
