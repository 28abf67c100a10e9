use Rattle.std.proofs.Common.{◌≡◌, ◌+◌, drop}
use Rattle.wf_model.specs.Presets.{different}
use Rattle.wf_task_presets.proofs.family.distinct_count.Given as goal

abbrev pub invariant-loop-place : goal.invariant-loop-place
invariant-loop-place l = l.count + different (drop l.place l.values) ≡ different l.values
