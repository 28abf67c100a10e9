use Rattle.std.proofs.Common.{length, map, vec_items, sym, ap, ◌∙◌, subst, arith}
use Rattle.wf_model.specs.Simplex.{complex_of}
use Rattle.wf_model.specs.Task.{IsTask}
use Rattle.wf_task.specs.Canonical.{HasFewFacets}
use Rattle.wf_task_presets.specs.Family.{tuples_for, images_of}
use Rattle.wf_task_presets.proofs.FamilyTasks.{few-images, counted, parts-task}
use Rattle.wf_task_presets.proofs.preset.task_for.Goals as goal

pub from_facets-requires : goal.from_facets-requires
from_facets-requires c =
    let few = few-images c.args.family c.args.inputs (omega (arith, counted c.args.family c.args.inputs, c.requires.task.limits.tuples)) in
    let images = c.deref.ensures.value ∙ c.in_ok-tuples.ensures.images ∙ ap (images_of c.args.family) c.simplices.ensures.simplices in
    omega (arith, ap length images, few)

pub of_parts-requires-clause-task : goal.of_parts-requires-clause-task
of_parts-requires-clause-task c =
    let images = c.deref.ensures.value ∙ c.in_ok-tuples.ensures.images ∙ ap (images_of c.args.family) c.simplices.ensures.simplices in
    subst IsTask (sym (parts-task c.args.processes c.args.symmetric c.args.family c.args.inputs c.deref.result.now c.in_ok-outputs.outputs (map vec_items c.in_ok-tuples.tuples.items)
    (c.in_ok-tuples.ensures.tuples ∙ ap (map (tuples_for c.args.family)) c.simplices.ensures.simplices) images c.in_ok-outputs.ensures)) c.requires.task

pub of_parts-requires-clause-few : goal.of_parts-requires-clause-few
of_parts-requires-clause-few c =
    let images = c.deref.ensures.value ∙ c.in_ok-tuples.ensures.images ∙ ap (images_of c.args.family) c.simplices.ensures.simplices in
    subst HasFewFacets (sym (c.in_ok-outputs.ensures ∙ ap complex_of images)) c.requires.few

pub returns : goal.returns
returns c =
    let images = c.deref.ensures.value ∙ c.in_ok-tuples.ensures.images ∙ ap (images_of c.args.family) c.simplices.ensures.simplices in
    c.of_parts.ensures
    ∙ parts-task c.args.processes c.args.symmetric c.args.family c.args.inputs c.deref.result.now c.in_ok-outputs.outputs (map vec_items c.in_ok-tuples.tuples.items)
    (c.in_ok-tuples.ensures.tuples ∙ ap (map (tuples_for c.args.family)) c.simplices.ensures.simplices) images c.in_ok-outputs.ensures
