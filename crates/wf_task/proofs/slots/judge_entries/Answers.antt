use Rattle.std.proofs.Common.{◌==◌, not, nat_lt, length, map, refl, sym, ap, ◌∙◌, arith}
use Rattle.std.specs.List.{position_from}
use Rattle.std.proofs.lemmas.List.{length-map}
use Rattle.wf_task_parse.specs.DraftSeen.{entry_seen}
use Rattle.wf_task.specs.Judge.{entries_judged, is_among}
use Rattle.wf_task.specs.Slots.{entries_in}
use Rattle.wf_task.proofs.Bounds.{place_below}
use Rattle.wf_task.proofs.EntrySlots.{first_missing_is, first_twice_is}
use Rattle.wf_task.proofs.slots.judge_entries.Goals as goal

pub overflow_cast-result : goal.overflow_cast-result
overflow_cast-result c =
    let rules = map entry_seen c.args.draft.now.delta.items in
    let missing = sym (first_missing_is c.args.slots.now rules c.args.inputs.now c.requires.slots) ∙ sym c.in-Some.ensures in
    let below = place_below (λ s. length (entries_in rules s) == 0) 0 c.args.inputs.now c.in-Some.place missing in
    omega (arith, below, c.requires.few_inputs)

pub returns-in-Some : goal.returns-in-Some
unfolding entries_judged
returns-in-Some c =
    let missing = sym (first_missing_is c.args.slots.now (map entry_seen c.args.draft.now.delta.items) c.args.inputs.now c.requires.slots) ∙ sym c.in-Some.ensures in
    rw missing refl

pub overflow_cast-result-in-Some-first_twice : goal.overflow_cast-result-in-Some-first_twice
overflow_cast-result-in-Some-first_twice c =
    let rules = map entry_seen c.args.draft.now.delta.items in
    let twice = sym (first_twice_is c.args.slots.now rules c.args.inputs.now c.requires.slots) ∙ sym c.in-Some-first_twice.ensures in
    let below = place_below (λ s. nat_lt 1 (length (entries_in rules s))) 0 c.args.inputs.now c.in-Some-first_twice.place twice in
    omega (arith, below, c.requires.few_inputs)

pub returns-in-Some-first_twice : goal.returns-in-Some-first_twice
unfolding entries_judged
returns-in-Some-first_twice c =
    let missing = sym (first_missing_is c.args.slots.now (map entry_seen c.args.draft.now.delta.items) c.args.inputs.now c.requires.slots) ∙ sym c.in-None.ensures in
    let twice = sym (first_twice_is c.args.slots.now (map entry_seen c.args.draft.now.delta.items) c.args.inputs.now c.requires.slots) ∙ sym c.in-Some-first_twice.ensures in
    rw missing (rw twice refl)

pub overflow_cast-result-in-Some-first_stray : goal.overflow_cast-result-in-Some-first_stray
overflow_cast-result-in-Some-first_stray c =
    let below = place_below (λ rule. not (is_among c.args.inputs.now rule.input)) 0 (map entry_seen c.deref.result.now) c.in-Some-first_stray.place (sym c.in-Some-first_stray.ensures) in
    omega (arith, below, length-map c.deref.result.now entry_seen, ap length c.deref.ensures.value, c.requires.few_entries)

pub returns-in-Some-first_stray : goal.returns-in-Some-first_stray
unfolding entries_judged
returns-in-Some-first_stray c =
    let missing = sym (first_missing_is c.args.slots.now (map entry_seen c.args.draft.now.delta.items) c.args.inputs.now c.requires.slots) ∙ sym c.in-None.ensures in
    let twice = sym (first_twice_is c.args.slots.now (map entry_seen c.args.draft.now.delta.items) c.args.inputs.now c.requires.slots) ∙ sym c.in-None-first_twice.ensures in
    let stray = ap (λ ds. position_from (λ rule. not (is_among c.args.inputs.now rule.input)) 0 (map entry_seen ds)) (sym c.deref.ensures.value) ∙ sym c.in-Some-first_stray.ensures in
    rw missing (rw twice (rw stray refl))

pub returns : goal.returns
unfolding entries_judged
returns c =
    let missing = sym (first_missing_is c.args.slots.now (map entry_seen c.args.draft.now.delta.items) c.args.inputs.now c.requires.slots) ∙ sym c.in-None.ensures in
    let twice = sym (first_twice_is c.args.slots.now (map entry_seen c.args.draft.now.delta.items) c.args.inputs.now c.requires.slots) ∙ sym c.in-None-first_twice.ensures in
    let stray = ap (λ ds. position_from (λ rule. not (is_among c.args.inputs.now rule.input)) 0 (map entry_seen ds)) (sym c.deref.ensures.value) ∙ sym c.in-None-first_stray.ensures in
    rw missing (rw twice (rw stray refl))
