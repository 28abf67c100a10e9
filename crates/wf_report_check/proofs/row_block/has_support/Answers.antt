use Rattle.std.proofs.Common.{not, ap, ◌∙◌}
use Rattle.wf_report_check.proofs.RowBlockLemmas.{left_last, left_more}
use Rattle.wf_report_check.proofs.row_block.has_support.Goals as goal

pub loop-at-preserved : goal.loop-at-preserved
loop-at-preserved c =
    left_more c.args.words.now c.args.sets.now c.args.place c.args.value c.loop-at.at c.loop-at.alive c.narrowed-alive.result c.loop-at-test.true c.requires.few c.narrowed-alive.ensures c.loop-at.invariant

pub returns : goal.returns
returns c = λ rows block plain.
    ap not c.is_empty.ensures
    ∙ left_last c.args.words.now c.args.sets.now c.args.place c.args.value c.loop-at.at c.loop-at.alive c.loop-at-test.false c.loop-at.invariant rows block plain
