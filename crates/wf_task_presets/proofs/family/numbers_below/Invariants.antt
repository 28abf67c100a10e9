use Rattle.std.proofs.Common.{◌≡◌}
use Rattle.wf_model.specs.Lists.{below}
use Rattle.wf_task_presets.proofs.family.numbers_below.Given as goal

abbrev pub invariant-loop-number : goal.invariant-loop-number
invariant-loop-number l = l.numbers.items ≡ below l.number
