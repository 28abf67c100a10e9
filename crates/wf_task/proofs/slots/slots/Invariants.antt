use Rattle.std.proofs.Common.{map, take}
use Rattle.wf_task_parse.specs.DraftSeen.{entry_seen}
use Rattle.wf_task.specs.Slots.{AreOf}
use Rattle.wf_task.proofs.slots.slots.Given as goal

abbrev pub invariant-loop-place : goal.invariant-loop-place
invariant-loop-place l = AreOf l.slots.items (map entry_seen (take l.place l.delta)) l.inputs
