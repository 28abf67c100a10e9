use Rattle.std.proofs.Common.{◌≡◌, map, take}
use Rattle.wf_task.specs.Slots.{no_entry}
use Rattle.wf_task.proofs.slots.empty_slots.Given as goal

abbrev pub invariant-loop-simplex : goal.invariant-loop-simplex
invariant-loop-simplex l = l.slots.items ≡ map no_entry (take l._simplex-index l.inputs)
