use Rattle.std.proofs.Common.{◌≡◌, map, take, vec_items}
use Rattle.serde_json.specs.View.{view}
use Rattle.wf_task.specs.Canonical.{rule_data}
use Rattle.wf_task.specs.TaskSeen.{rules_seen}
use Rattle.wf_task.proofs.canonical.entries.Given as goal

abbrev pub invariant-loop-place : goal.invariant-loop-place
invariant-loop-place l = map view l.entries.items ≡ map rule_data (take l.place (rules_seen l.inputs (map vec_items l.tuples)))
