use Rattle.std.proofs.Common.{◌≡◌, ◌+◌, ◌*◌, ◌∷◌, [], length, take, drop, ap, sym, ◌∙◌, subst, arith}
use Rattle.std.specs.Prelude.{◌-◌, min}
use Rattle.std.proofs.lemmas.List.{length-append, length-drop, take_min}
use Rattle.wf_report_check.specs.RowBlocks.{AreBlocks, IsBlock}
use Rattle.wf_report_check.proofs.GroupLemmas.{each_more}
use Rattle.wf_report_check.proofs.group.cut.Goals as goal

pub loop-number-preserved : goal.loop-number-preserved
loop-number-preserved c =
    let k = c.loop-number in
    let rows = c.args.rows.now in
    let one = c.in_ok-block_of.field-0 in
    let grown = c.in_ok-push.ensures.items in
    let here : IsBlock (take 64 (drop (64 * length k.blocks.items) rows)) one.items =
    subst (λ l. IsBlock l one.items)
    (ap (λ n. take n (drop (64 * k.number) rows)) (let short : c.min-end.result - 64 * k.number ≡ min 64 (length (drop (64 * k.number) rows)) = omega (arith, c.min-end.ensures, length-drop (64 * k.number) rows) in short)
    ∙ take_min 64 (drop (64 * k.number) rows)
    ∙ ap (λ n. take 64 (drop (64 * n) rows)) (sym k.invariant.0))
    c.in_ok-block_of.ensures in (
      ap length grown ∙ length-append k.blocks.items (one ∷ []) ∙ ap (λ n. n + 1) k.invariant.0,
      subst (AreBlocks rows) (sym grown) (each_more (λ n b. IsBlock (take 64 (drop (64 * n) rows)) b.items) k.blocks.items one k.invariant.1 here),
    )
