use Rattle.std.proofs.Common.{◌≡◌, map, drop, length}
use Rattle.serde_json.specs.View.{items_view}
use Rattle.wf_task_parse.specs.Shape.{each}
use Rattle.wf_task_parse.proofs.Lists.{after_front}
use Rattle.wf_task_parse.proofs.shape.list.Given as goal

abbrev pub invariant-loop-place : goal.invariant-loop-place
invariant-loop-place g l = (length (g.L.Growing.listed l.found) ≡ l.place)
    × (after_front (map g.T.Shape.seen (g.L.Growing.listed l.found)) (each g.T.Shape.reading (items_view (drop l.place l.values))) ≡ each g.T.Shape.reading (items_view l.values))
