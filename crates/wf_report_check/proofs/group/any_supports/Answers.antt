use Rattle.std.proofs.Common.{◌+◌, ◌*◌, length, map, take, drop, ap, sym, ◌∙◌, subst}
use Rattle.std.specs.Prelude.{◌||◌}
use Rattle.std.proofs.lemmas.List.Elements.{All-drop, All-take}
use Rattle.wf_model.specs.Box.{is_supported}
use Rattle.wf_base.specs.Set.Sets.{values_in}
use Rattle.wf_report_check.specs.RowBlocks.{IsBlock, IsPlain}
use Rattle.wf_report_check.proofs.GroupLemmas.{supported_split}
use Rattle.wf_report_check.proofs.group.any_supports.Goals as goal

pub returns-then-has_support : goal.returns-then-has_support
returns-then-has_support c = λ rows cut.
    let sets = map values_in c.args.sets.now in
    let k = c.loop-block.block-index in
    let block = take 64 (drop (64 * k) rows) in
    let plain = All-take (IsPlain (length c.args.sets.now)) 64 (drop (64 * k) rows) (All-drop (IsPlain (length c.args.sets.now)) (64 * k) rows cut.plain) in
    let words = subst (IsBlock block) (sym c.deref.ensures.value) (cut.words k c.block-item.result c.loop-block-test.true c.block-item.is) in
    sym
    (sym (c.loop-block.invariant rows cut)
    ∙ supported_split rows sets c.args.place c.args.value k
    ∙ ap (λ b. b || is_supported (drop (64 * (k + 1)) rows) sets c.args.place c.args.value) (sym (c.has_support.ensures block words plain) ∙ c.if-has_support.true))

pub loop-block-preserved : goal.loop-block-preserved
loop-block-preserved c = λ rows cut.
    let sets = map values_in c.args.sets.now in
    let k = c.loop-block.block-index in
    let block = take 64 (drop (64 * k) rows) in
    let plain = All-take (IsPlain (length c.args.sets.now)) 64 (drop (64 * k) rows) (All-drop (IsPlain (length c.args.sets.now)) (64 * k) rows cut.plain) in
    let words = subst (IsBlock block) (sym c.deref.ensures.value) (cut.words k c.block-item.result c.loop-block-test.true c.block-item.is) in
    sym
    (supported_split rows sets c.args.place c.args.value k
    ∙ ap (λ b. b || is_supported (drop (64 * (k + 1)) rows) sets c.args.place c.args.value) (sym (c.has_support.ensures block words plain) ∙ c.if-has_support.false))
    ∙ c.loop-block.invariant rows cut
