use Rattle.std.proofs.Common.{take, flat_map}
use Rattle.wf_model.specs.Simplex.{values_of}
use Rattle.wf_task.specs.Mask.{IsMaskOf}
use Rattle.wf_task.proofs.rows.mask.Given as goal

abbrev pub invariant-loop-simplex : goal.invariant-loop-simplex
invariant-loop-simplex l = IsMaskOf l.mask (flat_map values_of (take l.simplex-index l.simplices))
