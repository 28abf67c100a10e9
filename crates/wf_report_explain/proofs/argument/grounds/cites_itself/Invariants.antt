use Rattle.std.proofs.Common.{◌≡◌, drop}
use Rattle.wf_report_explain.specs.Argument.ArgumentState.{cites_itself}
use Rattle.wf_report_explain.specs.Argument.Trail.{state_of}
use Rattle.wf_report_explain.proofs.argument.grounds.cites_itself.Given as goal

abbrev pub invariant-loop-tuple : goal.invariant-loop-tuple
invariant-loop-tuple l = cites_itself (drop l.tuple-index l.seat.tuples.now) l.seat.points.now (state_of l.state).number l.seat.place (state_of l.state).gone l.value ≡ cites_itself l.seat.tuples.now l.seat.points.now (state_of l.state).number l.seat.place (state_of l.state).gone l.value
