use Rattle.std.proofs.Common.{[], Some, map, ap, ◌∙◌, slice_index_or}
use Rattle.wf_task_parse.specs.DraftSeen.{draft_seen, entry_seen}
use Rattle.wf_task.specs.Judge.{wrong_length}
use Rattle.wf_task.proofs.TupleLemmas.{lists_here, simplex_here, not_some, wrong_is, answer_here, answer_later}
use Rattle.wf_task.proofs.tuples.first_wrong_length.Goals as goal

pub returns-in-Some : goal.returns-in-Some
returns-in-Some c =
    let listed = draft_seen c.args.draft.now in
    let inputs = c.args.inputs.now in
    let i = c.loop-number.number in
    let lists = lists_here c.args.slots.now listed.delta (map entry_seen c.deref.result.now) inputs i (map (λ t. t.items) c.lists_at-lists.result.now) c.requires c.loop-number-test.true c.lists_at-lists.ensures (ap (map entry_seen) c.deref.ensures.value) in
    let here = simplex_here inputs i c.index-inputs-number.result c.loop-number-test.true c.index-inputs-number.is in
    let found = wrong_is listed (slice_index_or inputs i []) c.index-inputs-number.result (map (λ t. t.items) c.lists_at-lists.result.now) c.from-size.result (Some c.in-Some.place) c.in-Some.ensures lists (c.from-size.ensures ∙ c.colours.ensures.count) here in
    answer_here (wrong_length listed) inputs i c.in-Some.place c.loop-number-test.true found ∙ c.loop-number.invariant

pub loop-number-preserved : goal.loop-number-preserved
loop-number-preserved c =
    let listed = draft_seen c.args.draft.now in
    let inputs = c.args.inputs.now in
    let i = c.loop-number.number in
    let lists = lists_here c.args.slots.now listed.delta (map entry_seen c.deref.result.now) inputs i (map (λ t. t.items) c.lists_at-lists.result.now) c.requires c.loop-number-test.true c.lists_at-lists.ensures (ap (map entry_seen) c.deref.ensures.value) in
    let here = simplex_here inputs i c.index-inputs-number.result c.loop-number-test.true c.index-inputs-number.is in
    let found = wrong_is listed (slice_index_or inputs i []) c.index-inputs-number.result (map (λ t. t.items) c.lists_at-lists.result.now) c.from-size.result c.first_of_wrong_length.result c.first_of_wrong_length.ensures lists (c.from-size.ensures ∙ c.colours.ensures.count) here in
    answer_later (wrong_length listed) inputs i c.loop-number-test.true (found ∙ not_some c.first_of_wrong_length.result c.in_default.not-Some) ∙ c.loop-number.invariant
