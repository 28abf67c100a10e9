use Rattle.std.proofs.Common.{◌≡◌, ◌==◌, map, drop, length, not}
use Rattle.std.specs.List.{position_from}
use Rattle.wf_task.proofs.tuples.first_of_wrong_length.Given as goal

abbrev pub invariant-loop-place : goal.invariant-loop-place
invariant-loop-place l =
    position_from (λ tuple. not (length tuple == l.size)) l.place (map (λ t. t.items) (drop l.place l.lists)) ≡ position_from (λ tuple. not (length tuple == l.size)) 0 (map (λ t. t.items) l.lists)
