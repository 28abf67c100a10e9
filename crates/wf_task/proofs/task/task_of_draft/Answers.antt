use Rattle.std.proofs.Common.{◌≡◌, All, map, flat_map, vec_items, sym, ap, ◌∙◌, subst, arith}
use Rattle.wf_model.specs.Simplex.{values_of, complex_of}
use Rattle.wf_model.specs.Task.{IsTask}
use Rattle.wf_task.specs.Canonical.{HasFewFacets}
use Rattle.wf_task_parse.specs.DraftSeen.{draft_seen, entry_seen}
use Rattle.wf_task.specs.Mask.{IsMaskOf}
use Rattle.wf_task.specs.TaskSeen.{rules_seen, task_with_block}
use Rattle.wf_task.specs.Tuples.{NamesRows, rows_at}
use Rattle.wf_task.proofs.Judged.{are_judged}
use Rattle.wf_task.proofs.DraftsWithoutFault.{slots_of_faultless, rows_of_faultless, rules_of_faultless, task_is, drafted_is_task, are_few}
use Rattle.wf_task.proofs.TaskValues.{mask_in_order}
use Rattle.wf_task.proofs.Faceted.{length-facets}
use Rattle.wf_task.proofs.task.task_of_draft.Goals as goal

pub all_rows-requires : goal.all_rows-requires
all_rows-requires c =
    let listed = draft_seen c.args.draft.now in
    subst (λ es. All (NamesRows (map entry_seen es)) c.args.slots.now) (sym c.deref.ensures.value) (slots_of_faultless listed c.args.slots.now c.args.inputs c.requires.faultless c.requires.inputs c.requires.slots)

pub overflow_cast-result : goal.overflow_cast-result
overflow_cast-result c = let few = (are_judged (draft_seen c.args.draft.now) tt c.requires.faultless.numbers).few in omega (arith, few)

pub invariant_of-result : goal.invariant_of-result
invariant_of-result c =
    let listed = draft_seen c.args.draft.now in
    let rows = map vec_items c.in_ok-tuples.tuples.items in
    let made : rows ≡ map (rows_at listed.delta) c.args.slots.now = c.in_ok-tuples.ensures ∙ ap (λ es. map (rows_at (map entry_seen es)) c.args.slots.now) c.deref.ensures.value in
    let rules = rules_of_faultless listed c.args.slots.now c.args.inputs rows c.requires.faultless c.requires.inputs c.requires.slots made in
    let kept = ap (λ o. task_with_block o listed.processes listed.symmetric c.args.inputs rows c.args.outputs) c.to_u8.ensures in
    let seen = task_is listed (rules_seen c.args.inputs rows) c.args.outputs _ kept rules c.requires.outputs in
    let mask = subst (λ os. IsMaskOf c.mask-values.result (flat_map values_of os)) c.simplices.ensures.simplices c.mask-values.ensures in
    record {
      task = subst IsTask (sym seen) (drafted_is_task listed c.requires.faultless);
      few_outputs = subst HasFewFacets (sym c.requires.outputs) (omega (arith, length-facets listed.outputs, (are_few listed (complex_of listed.inputs) tt c.requires.faultless.sizes).outputs));
      each = rows_of_faultless listed c.args.slots.now c.args.inputs rows c.requires.faultless c.requires.inputs c.requires.slots made;
      values = mask_in_order c.mask-values.result (flat_map values_of c.args.outputs) mask;
    }

pub returns : goal.returns
returns c =
    let listed = draft_seen c.args.draft.now in
    let rows = map vec_items c.in_ok-tuples.tuples.items in
    let made : rows ≡ map (rows_at listed.delta) c.args.slots.now = c.in_ok-tuples.ensures ∙ ap (λ es. map (rows_at (map entry_seen es)) c.args.slots.now) c.deref.ensures.value in
    let rules = rules_of_faultless listed c.args.slots.now c.args.inputs rows c.requires.faultless c.requires.inputs c.requires.slots made in
    let kept = ap (λ o. task_with_block o listed.processes listed.symmetric c.args.inputs rows c.args.outputs) c.to_u8.ensures in
    task_is listed (rules_seen c.args.inputs rows) c.args.outputs _ kept rules c.requires.outputs
