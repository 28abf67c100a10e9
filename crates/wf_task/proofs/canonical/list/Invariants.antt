use Rattle.std.proofs.Common.{◌≡◌, map, take}
use Rattle.serde_json.specs.View.{view}
use Rattle.wf_task.proofs.canonical.list.Given as goal

abbrev pub invariant-loop-value : goal.invariant-loop-value
invariant-loop-value g l = map view l.items.items ≡ map g.T.Shown.shown (take l.value-index l.values)
