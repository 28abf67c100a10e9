use Rattle.std.proofs.Common.{◌≡◌, take}
use Rattle.std.specs.Ordering.{nat_cmp}
use Rattle.wf_model.specs.Lists.{in_order}
use Rattle.wf_model.specs.Simplex.{values_of}
use Rattle.wf_task_presets.proofs.family.values_of.Given as goal

abbrev pub invariant-loop-place : goal.invariant-loop-place
invariant-loop-place l = l.values.keys ≡ in_order nat_cmp (take l.place (values_of l.simplex))
