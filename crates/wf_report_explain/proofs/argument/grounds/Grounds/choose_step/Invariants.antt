use Rattle.std.proofs.Common.{◌≡◌, drop, flat_map, take}
use Rattle.wf_report_explain.specs.Argument.Seats.{point_at, steps_at, taken_at}
use Rattle.wf_report_explain.specs.Argument.ArgumentState.{needed, steps_from}
use Rattle.wf_report_explain.specs.Argument.Trail.{state_of}
use Rattle.wf_report_explain.proofs.argument.grounds.Grounds.choose_step.Given as goal

abbrev pub invariant-loop-place : goal.invariant-loop-place
invariant-loop-place l = record {
  tuples : l.self.needed.items ≡ flat_map (needed l.seat.tuples.now l.seat.place) (take l.place l.values);
  taking : record { gone = (state_of l.state).gone; reasons = l.self.reasons.items } ≡ taken_at l.seat (state_of l.fn.state) (take l.place l.values);
  steps : steps_from l.seat.tuples.now l.seat.points.now (state_of l.fn.state).number l.seat.place (point_at l.seat) (state_of l.state).gone (take l.place l.values) (drop l.place l.values) ≡ steps_at l.seat (state_of l.fn.state).number (state_of l.fn.state).gone l.values;
  state : record (state_of l.fn.state) { gone = (state_of l.state).gone } ≡ state_of l.state;
  values : l.state.values ≡ l.fn.state.values;
}
