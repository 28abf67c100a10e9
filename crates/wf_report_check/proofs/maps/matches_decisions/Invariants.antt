use Rattle.std.proofs.Common.{◌≡◌, ◌==◌, map, drop, slice_index}
use Rattle.std.specs.Cmp.Lexicographic.{pointwise}
use Rattle.wf_report_check.proofs.maps.matches_decisions.Given as goal

abbrev pub invariant-loop-place : goal.invariant-loop-place
invariant-loop-place l =
    pointwise (λ x y. x == y) (map (λ v. slice_index l.values v) (drop l.place l.points)) (drop l.place l.wanted) ≡ pointwise (λ x y. x == y) (map (λ v. slice_index l.values v) l.points) l.wanted
