use Rattle.std.proofs.Common.{◌≡◌, map, drop}
use Rattle.std.specs.List.{list_any}
use Rattle.wf_task.specs.Judge.{has_large}
use Rattle.wf_task.proofs.judge.any_has_large.Given as goal

abbrev pub invariant-loop-simplex : goal.invariant-loop-simplex
invariant-loop-simplex l = list_any (has_large l.largest) (map (λ s. s.pairs.items) (drop l.simplex-index l.simplices)) ≡ list_any (has_large l.largest) (map (λ s. s.pairs.items) l.simplices)
