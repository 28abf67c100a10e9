use Rattle.std.proofs.Common.{flat_map, subst}
use Rattle.wf_model.specs.Simplex.{values_of}
use Rattle.wf_task.specs.Mask.{IsMaskOf}
use Rattle.wf_task.proofs.TaskValues.{mask_in_order}
use Rattle.wf_task.proofs.task.Task.of_parts.Goals as goal

pub invariant_of-result : goal.invariant_of-result
invariant_of-result c =
    let mask = subst (λ os. IsMaskOf c.mask.result (flat_map values_of os)) c.simplices.ensures.simplices c.mask.ensures in
    record {
      task = c.requires.task;
      each = c.requires.each;
      few_outputs = c.requires.few;
      values = mask_in_order c.mask.result (flat_map values_of c.args.outputs) mask;
    }
