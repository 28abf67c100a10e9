use Rattle.std.proofs.Common.{◌≡◌, ◌≢◌, ◌==◌, not, false, arith, ne_eqb, All, List, Ok, length, map, sym, ap, ◌∙◌, subst, subst₂}
use Rattle.std.proofs.lemmas.Bool.{eqb-false, not-false}
use Rattle.std.proofs.lemmas.List.{length-map}
use Rattle.wf_model.specs.Simplex.{Simplex, complex_of}
use Rattle.wf_model.specs.Task.{IsSimplexWithin}
use Rattle.wf_task.specs.declared.slots.EntryCount.{EntryCount}
use Rattle.wf_task_parse.specs.declared.fault.TaskFault.TheVariants as fault
use Rattle.wf_task_parse.specs.DraftSeen.{draft_seen, pairs_seen, entry_seen}
use Rattle.wf_task.specs.Judge.{is_first_block, sizes_judged, tuples_judged}
use Rattle.wf_task.specs.Slots.{AreOf, AreOnly}
use Rattle.wf_task.proofs.Judged.{passed_last, are_judged, inputs_within, outputs_within}
use Rattle.wf_task.proofs.DraftsWithoutFault.{all_within_four, entries_within_four, only_entries, faultless, are_few}
use Rattle.wf_task.proofs.task.judge.Goals as goal

pub complex-requires-clause-within : goal.complex-requires-clause-within
complex-requires-clause-within c =
    let listed = draft_seen c.args.draft.now in
    let numbers = are_judged listed c.in_ok-judge_numbers.field-0 c.in_ok-judge_numbers.ensures in
    subst (λ ds. All (IsSimplexWithin 4 255) (map pairs_seen ds)) (sym c.deref.ensures.value) (all_within_four listed listed.inputs numbers (inputs_within listed numbers c.requires.vertices.inputs))

pub slots-requires : goal.slots-requires
slots-requires c =
    let listed = draft_seen c.args.draft.now in
    let numbers = are_judged listed c.in_ok-judge_numbers.field-0 c.in_ok-judge_numbers.ensures in
    subst (λ es. All (λ rule. IsSimplexWithin 4 255 rule.input) (map entry_seen es)) (sym c.deref-2.ensures.value) (entries_within_four listed numbers c.requires.vertices)

pub judge_entries-requires-clause-within : goal.judge_entries-requires-clause-within
judge_entries-requires-clause-within c =
    let listed = draft_seen c.args.draft.now in
    entries_within_four listed (are_judged listed c.in_ok-judge_numbers.field-0 c.in_ok-judge_numbers.ensures) c.requires.vertices

pub complex-requires-2-clause-within : goal.complex-requires-2-clause-within
complex-requires-2-clause-within c =
    let listed = draft_seen c.args.draft.now in
    let numbers = are_judged listed c.in_ok-judge_numbers.field-0 c.in_ok-judge_numbers.ensures in
    subst (λ ds. All (IsSimplexWithin 4 255) (map pairs_seen ds)) (sym c.deref-4.ensures.value) (all_within_four listed listed.outputs numbers (outputs_within listed numbers c.requires.vertices.outputs))

pub judge_tuples-requires-clause-only : goal.judge_tuples-requires-clause-only
judge_tuples-requires-clause-only c =
    let listed = draft_seen c.args.draft.now in
    let slots = c.in_ok-slots.slots.items in
    let inputs = c.in_ok-inputs.inputs in
    let of : AreOf slots listed.delta inputs = subst (λ es. AreOf slots (map entry_seen es) inputs) c.deref-2.ensures.value c.in_ok-slots.ensures in
    subst₂ (λ (ss : List EntryCount) (is : List Simplex). AreOnly ss listed.delta is) (sym c.deref-5.ensures.value) (sym c.simplices-2.ensures.simplices) (only_entries slots listed inputs c.in_ok-judge_entries.field-0 of c.in_ok-judge_entries.ensures)

pub judge_tuples-requires-clause-small : goal.judge_tuples-requires-clause-small
judge_tuples-requires-clause-small c =
    let listed = draft_seen c.args.draft.now in
    (are_judged listed c.in_ok-judge_numbers.field-0 c.in_ok-judge_numbers.ensures).small

pub task_of_draft-requires-clause-faultless : goal.task_of_draft-requires-clause-faultless
task_of_draft-requires-clause-faultless c =
    let listed = draft_seen c.args.draft.now in
    let inputs = c.in_ok-inputs.inputs in
    let is : inputs ≡ complex_of listed.inputs = c.in_ok-inputs.ensures ∙ ap (λ ds. complex_of (map pairs_seen ds)) c.deref.ensures.value in
    let count : c.args.draft.now.inputs.len ≢ 0 = eqb-false c.args.draft.now.inputs.len 0 (sym c.is_empty.ensures ∙ c.if-is_empty.false) in
    let some : (length listed.inputs == 0) ≡ false = ne_eqb (length listed.inputs) 0 (λ e. count (omega (arith, e, c.args.draft.now.inputs.ok.0, length-map c.args.draft.now.inputs.items pairs_seen))) in
    faultless listed inputs c.in_ok-judge_numbers.field-0 c.in_ok-judge_sizes.field-0 c.in_ok-judge_entries.field-0 c.in_ok-judge_tuples.field-0 c.requires.vertices c.in_ok-judge_numbers.ensures is
    (let sizes : sizes_judged listed inputs ≡ Ok c.in_ok-judge_sizes.field-0 = subst (λ ss. sizes_judged listed ss ≡ Ok c.in_ok-judge_sizes.field-0) c.simplices.ensures.simplices c.in_ok-judge_sizes.ensures in sizes)
    c.in_ok-judge_entries.ensures
    (let tuples : tuples_judged listed inputs ≡ Ok c.in_ok-judge_tuples.field-0 = subst (λ ss. tuples_judged listed ss ≡ Ok c.in_ok-judge_tuples.field-0) c.simplices-2.ensures.simplices c.in_ok-judge_tuples.ensures in tuples)
    some
    (not-false (is_first_block listed.least_block) (passed_last (not (is_first_block listed.least_block)) fault.FirstBlock c.in_ok-judge_first_block.field-0 c.in_ok-judge_first_block.ensures))

pub complex-requires-clause-few : goal.complex-requires-clause-few
complex-requires-clause-few c = omega (arith, ap length c.deref.ensures.value, length-map c.args.draft.now.inputs.items pairs_seen, c.requires.few.inputs)

pub complex-requires-2-clause-few : goal.complex-requires-2-clause-few
complex-requires-2-clause-few c = omega (arith, ap length c.deref-4.ensures.value, length-map c.args.draft.now.outputs.items pairs_seen, c.requires.few.outputs)

pub judge_entries-requires-clause-few_inputs : goal.judge_entries-requires-clause-few_inputs
judge_entries-requires-clause-few_inputs c =
    let few = are_few (draft_seen c.args.draft.now) c.simplices.result.now c.in_ok-judge_sizes.field-0 c.in_ok-judge_sizes.ensures in
    omega (arith, few.simplices, ap length c.simplices.ensures.simplices)

pub judge_entries-requires-clause-few_entries : goal.judge_entries-requires-clause-few_entries
judge_entries-requires-clause-few_entries c = omega (arith, length-map c.args.draft.now.delta.items entry_seen, c.requires.few.entries)

pub judge_tuples-requires-clause-few_inputs : goal.judge_tuples-requires-clause-few_inputs
judge_tuples-requires-clause-few_inputs c =
    let few = are_few (draft_seen c.args.draft.now) c.simplices.result.now c.in_ok-judge_sizes.field-0 c.in_ok-judge_sizes.ensures in
    omega (arith, few.simplices, ap length c.simplices.ensures.simplices, ap length c.simplices-2.ensures.simplices)

pub judge_tuples-requires-clause-few_tuples : goal.judge_tuples-requires-clause-few_tuples
judge_tuples-requires-clause-few_tuples c = (are_few (draft_seen c.args.draft.now) c.simplices.result.now c.in_ok-judge_sizes.field-0 c.in_ok-judge_sizes.ensures).tuples
