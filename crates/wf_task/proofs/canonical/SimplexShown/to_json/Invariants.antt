use Rattle.std.proofs.Common.{◌≡◌, map, take}
use Rattle.serde_json.specs.View.{view}
use Rattle.wf_task.specs.Canonical.{vertex_data}
use Rattle.wf_task.proofs.canonical.SimplexShown.to_json.Given as goal

abbrev pub invariant-loop-place : goal.invariant-loop-place
invariant-loop-place l = map view l.vertices.items ≡ map vertex_data (take l.place l.self)
