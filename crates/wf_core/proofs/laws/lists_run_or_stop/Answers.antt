use Rattle.wf_core.proofs.Runs.{runs_or_stops, runs_not_both, run_one, one_place}
use Rattle.wf_core.proofs.laws.lists_run_or_stop.Goals as goal

pub returns : goal.returns
returns c = record { either = runs_or_stops; not_both = runs_not_both; one_state = run_one; one_place = one_place }
