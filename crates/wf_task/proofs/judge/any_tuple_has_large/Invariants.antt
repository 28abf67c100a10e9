use Rattle.std.proofs.Common.{◌≡◌, map, drop}
use Rattle.std.specs.List.{list_any}
use Rattle.wf_task.specs.Judge.{is_large}
use Rattle.wf_task.proofs.judge.any_tuple_has_large.Given as goal

abbrev pub invariant-loop-tuple : goal.invariant-loop-tuple
invariant-loop-tuple l = list_any (list_any (is_large l.largest)) (map (λ t. t.items) (drop l.tuple-index l.tuples)) ≡ list_any (list_any (is_large l.largest)) (map (λ t. t.items) l.tuples)
