use Rattle.std.proofs.Common.{◌≡◌, ◌++◌, drop, map, vec_items}
use Rattle.wf_report_explain.specs.Argument.ArgumentState.{needed, with_reasons}
use Rattle.wf_report_explain.proofs.argument.grounds.Grounds.note.Given as goal

abbrev pub invariant-loop-tuple : goal.invariant-loop-tuple
invariant-loop-tuple l = record {
  tuples : l.self.needed.items ++ needed (drop l.tuple-index l.seat.tuples.now) l.seat.place l.value ≡ l.initial.self.needed.items ++ needed l.seat.tuples.now l.seat.place l.value;
  why : with_reasons (map vec_items l.gone) l.seat.points.now l.self.reasons.items (needed (drop l.tuple-index l.seat.tuples.now) l.seat.place l.value) ≡ with_reasons (map vec_items l.gone) l.seat.points.now l.initial.self.reasons.items (needed l.seat.tuples.now l.seat.place l.value);
}
