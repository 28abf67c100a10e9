use Rattle.std.proofs.Common.{Contains, not, sym, ap, ◌∙◌, subst}
use Rattle.wf_model.specs.Task.{IsSimplexWithin}
use Rattle.wf_task_parse.specs.DraftSeen.{entry_seen}
use Rattle.wf_task.specs.Judge.{is_among}
use Rattle.wf_task.proofs.EntrySlots.{among-there, entry_within, stray_here, not_both}
use Rattle.wf_task.proofs.TupleLemmas.{first_later}
use Rattle.wf_task.proofs.slots.first_stray.Goals as goal

pub of_pairs-requires : goal.of_pairs-requires
of_pairs-requires c =
    subst (IsSimplexWithin 4 255) (sym c.deref.ensures) (entry_within c.args.delta.now c.loop-place.place c.index-delta-place.result c.loop-place-test.true c.index-delta-place.is c.requires)

pub returns-then-stray : goal.returns-then-stray
returns-then-stray c =
    stray_here c.args.inputs.now c.args.delta.now c.loop-place.place c.index-delta-place.result c.loop-place-test.true c.index-delta-place.is
    (λ here. (let found = c.contains-stray.ensures.1 (subst (Contains c.args.inputs.now) (sym (c.of_pairs.ensures ∙ c.deref.ensures)) here) in not_both c.contains-stray.result c.if-stray.true found))
    ∙ c.loop-place.invariant

pub loop-place-preserved : goal.loop-place-preserved
loop-place-preserved c =
    let inputs = c.args.inputs.now in
    let e = c.index-delta-place.result in
    let there = subst (Contains inputs) (c.of_pairs.ensures ∙ c.deref.ensures) (c.contains-stray.ensures.0 c.if-stray.false) in
    first_later (λ rule. not (is_among inputs rule.input)) entry_seen c.args.delta.now c.loop-place.place e c.loop-place-test.true c.index-delta-place.is
    (ap not (among-there inputs (entry_seen e).input there))
    ∙ c.loop-place.invariant
