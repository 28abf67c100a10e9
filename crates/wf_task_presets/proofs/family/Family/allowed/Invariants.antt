use Rattle.std.proofs.Common.{◌≡◌, filter, take}
use Rattle.wf_model.specs.Lists.{lists_of}
use Rattle.wf_task_presets.specs.Family.{allows}
use Rattle.wf_task_presets.proofs.family.Family.allowed.Given as goal

abbrev pub invariant-loop-number : goal.invariant-loop-number
invariant-loop-number l = l.rows.items ≡ filter (allows l.self) (take l.number (lists_of l.values l.size))
