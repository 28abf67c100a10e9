use Rattle.std.proofs.Common.{◌≡◌, map, take}
use Rattle.wf_task.proofs.rows.rows.Given as goal

abbrev pub invariant-loop-list : goal.invariant-loop-list
invariant-loop-list l = l.rows.items ≡ map (λ t. t.items) (take l.list-index l.lists)
