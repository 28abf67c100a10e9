use Rattle.std.proofs.Common.{◌≡◌, ◌+◌, filter, take, length}
use Rattle.wf_model.specs.Lists.{lists_of}
use Rattle.wf_task_presets.specs.Family.{allows}
use Rattle.wf_task_presets.proofs.family.Family.count_allowed.Given as goal

abbrev pub invariant-loop-number : goal.invariant-loop-number
invariant-loop-number l = l.left + length (filter (allows l.self) (take l.number (lists_of l.values l.size))) ≡ l.most
