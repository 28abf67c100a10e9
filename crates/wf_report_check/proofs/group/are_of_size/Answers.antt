use Rattle.std.proofs.Common.{◌≡◌, length, ap, sym, ◌∙◌, subst}
use Rattle.std.proofs.lemmas.List.{take_all}
use Rattle.std.proofs.lemmas.List.Elements.{All-more}
use Rattle.wf_model.specs.Task.{Tuple}
use Rattle.wf_report_check.specs.RowBlocks.{AreOfSize}
use Rattle.wf_report_check.proofs.group.are_of_size.Goals as goal

pub loop-row-preserved : goal.loop-row-preserved
loop-row-preserved c =
    All-more (λ (row : Tuple). length row ≡ c.args.size) c.args.rows.now c.loop-row.row-index c.row-item.result c.loop-row-test.true c.loop-row.invariant
    (sym (ap length c.row-item.is) ∙ sym c.size.ensures.count ∙ c.if-size.false)

pub returns : goal.returns
returns c = λ _. subst (AreOfSize c.args.size) (take_all c.loop-row.row-index c.args.rows.now c.loop-row-test.false) c.loop-row.invariant
