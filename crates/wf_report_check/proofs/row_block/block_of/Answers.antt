use Rattle.std.proofs.Common.{◌≡◌, ◌+◌, ◌*◌, ◌/◌, ◌%◌, ◌==◌, ℕ, get_or, length, take, drop, replicate, ap, sym, ◌∙◌, subst}
use Rattle.std.specs.Prelude.{◌||◌, ◌&&◌, ◌++◌}
use Rattle.std.proofs.lemmas.List.{length-replicate, take_at}
use Rattle.wf_model.specs.Lists.{has}
use Rattle.wf_model.specs.Box.{has_at}
use Rattle.wf_base.specs.Set.Parts.{part_values}
use Rattle.wf_report_check.specs.RowBlocks.{IsBlock}
use Rattle.wf_report_check.proofs.BuildLemmas.{no_rows, row_added}
use Rattle.wf_report_check.proofs.row_block.block_of.Goals as goal

pub loop-number-init : goal.loop-number-init
loop-number-init c =
    let items : c.in_ok-words.words.items ≡ replicate (4 * c.args.width) 0 = c.in_ok-words.ensures.items_if_clones_equal (λ y e. e) in
    (ap length items ∙ length-replicate {A = ℕ} (4 * c.args.width) 0, no_rows (4 * c.args.width) c.in_ok-words.words.items c.args.rows.now items)

pub loop-number-preserved : goal.loop-number-preserved
loop-number-preserved c =
    let k = c.loop-number in
    let rows = c.args.rows.now in
    let row = c.index-rows-number.result in
    let new = c.add_row.new.words in
    let kept : take k.words.len (new ++ drop (length new) k.words.items) ≡ new = take_at new (drop (length new) k.words.items) k.words.len (c.add_row.ensures.long ∙ c.deref_mut.ensures.len) in
    let added = subst (λ old. (i r : ℕ) → has (part_values (get_or new i 0)) r ≡ (has (part_values (get_or old i 0)) r || (k.number == r && has_at row (i % 4) (i / 4)))) c.deref_mut.ensures.value c.add_row.ensures.added in (
      ap length kept ∙ c.add_row.ensures.long ∙ ap length c.deref_mut.ensures.value ∙ k.invariant.0,
      subst (IsBlock (take (k.number + 1) rows)) (sym kept) (row_added rows row k.words.items new k.number c.loop-number-test.true c.index-rows-number.is added k.invariant.1),
    )
