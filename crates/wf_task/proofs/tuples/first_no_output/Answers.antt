use Rattle.std.proofs.Common.{[], All, List, Some, length, map, sym, ap, ◌∙◌, subst₂, slice_index_or}
use Rattle.wf_model.specs.Simplex.{Simplex}
use Rattle.wf_model.specs.Task.{Tuple}
use Rattle.wf_task_parse.specs.DraftSeen.{draft_seen, entry_seen}
use Rattle.wf_task.specs.Judge.{no_output}
use Rattle.wf_task.specs.Tuples.{IsTupleOf}
use Rattle.wf_task.proofs.TupleLemmas.{lists_here, simplex_here, not_some, no_output_is, answer_here, answer_later}
use Rattle.wf_task.proofs.tuples.first_no_output.Goals as goal

pub first_stray_list-requires : goal.first_stray_list-requires
first_stray_list-requires c =
    let listed = draft_seen c.args.draft.now in
    let inputs = c.args.inputs.now in
    let i = c.loop-number.number in
    let lists = lists_here c.args.slots.now listed.delta (map entry_seen c.deref.result.now) inputs i (map (λ t. t.items) c.lists_at-lists.result.now) c.requires.only c.loop-number-test.true c.lists_at-lists.ensures (ap (map entry_seen) c.deref.ensures.value) in
    let here = simplex_here inputs i c.index-inputs-number.result c.loop-number-test.true c.index-inputs-number.is in
    subst₂ (λ (s : Simplex) (ls : List Tuple). All (IsTupleOf (length s)) ls) (sym here) (sym lists) (c.requires.tuples.each i c.loop-number-test.true)

pub returns-in-Some : goal.returns-in-Some
returns-in-Some c =
    let listed = draft_seen c.args.draft.now in
    let inputs = c.args.inputs.now in
    let i = c.loop-number.number in
    let lists = lists_here c.args.slots.now listed.delta (map entry_seen c.deref.result.now) inputs i (map (λ t. t.items) c.lists_at-lists.result.now) c.requires.only c.loop-number-test.true c.lists_at-lists.ensures (ap (map entry_seen) c.deref.ensures.value) in
    let here = simplex_here inputs i c.index-inputs-number.result c.loop-number-test.true c.index-inputs-number.is in
    let found = no_output_is listed (slice_index_or inputs i []) c.index-inputs-number.result (map (λ t. t.items) c.lists_at-lists.result.now) c.args.outputs.now (Some c.in-Some.place) c.in-Some.ensures lists c.requires.outputs here in
    answer_here (no_output listed) inputs i c.in-Some.place c.loop-number-test.true found ∙ c.loop-number.invariant

pub loop-number-preserved : goal.loop-number-preserved
loop-number-preserved c =
    let listed = draft_seen c.args.draft.now in
    let inputs = c.args.inputs.now in
    let i = c.loop-number.number in
    let lists = lists_here c.args.slots.now listed.delta (map entry_seen c.deref.result.now) inputs i (map (λ t. t.items) c.lists_at-lists.result.now) c.requires.only c.loop-number-test.true c.lists_at-lists.ensures (ap (map entry_seen) c.deref.ensures.value) in
    let here = simplex_here inputs i c.index-inputs-number.result c.loop-number-test.true c.index-inputs-number.is in
    let found = no_output_is listed (slice_index_or inputs i []) c.index-inputs-number.result (map (λ t. t.items) c.lists_at-lists.result.now) c.args.outputs.now c.first_stray_list.result c.first_stray_list.ensures lists c.requires.outputs here in
    answer_later (no_output listed) inputs i c.loop-number-test.true (found ∙ not_some c.first_stray_list.result c.in_default.not-Some) ∙ c.loop-number.invariant
