use Rattle.std.proofs.Common.{◌≡◌, ◌==◌, map, drop, slice_index}
use Rattle.std.specs.List.{list_any}
use Rattle.std.specs.Cmp.Lexicographic.{pointwise}
use Rattle.wf_report_check.proofs.maps.has_tuple.Given as goal

abbrev pub invariant-loop-tuple : goal.invariant-loop-tuple
invariant-loop-tuple l =
    list_any (pointwise (λ x y. x == y) (map (λ v. slice_index l.values v) l.points)) (drop l.tuple-index l.tuples)
    ≡ list_any (pointwise (λ x y. x == y) (map (λ v. slice_index l.values v) l.points)) l.tuples
