use Rattle.std.proofs.Common.{take}
use Rattle.wf_model.specs.Simplex.{values_of}
use Rattle.wf_task.specs.Mask.{HasMore}
use Rattle.wf_task.proofs.rows.with_values.Given as goal

abbrev pub invariant-loop-place : goal.invariant-loop-place
invariant-loop-place l = HasMore l.fn.set (take l.place (values_of l.simplex)) l.more
