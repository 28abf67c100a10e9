use Rattle.std.proofs.Common.{◌≡◌, drop}
use Rattle.std.specs.List.{position_from}
use Rattle.wf_task.specs.Slots.{is_twice}
use Rattle.wf_task.proofs.slots.first_twice.Given as goal

abbrev pub invariant-loop-place : goal.invariant-loop-place
invariant-loop-place l = position_from is_twice l.place (drop l.place l.slots) ≡ position_from is_twice 0 l.slots
