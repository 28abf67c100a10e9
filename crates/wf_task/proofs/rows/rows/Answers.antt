use Rattle.std.proofs.Common.{sym, ◌∙◌, subst}
use Rattle.wf_task.specs.Tuples.{IsRow}
use Rattle.wf_task.proofs.TupleLemmas.{seen_here}
use Rattle.wf_task.proofs.RowLemmas.{row_more, rows_sorted}
use Rattle.wf_task.proofs.rows.rows.Goals as goal

pub of_values-requires : goal.of_values-requires
of_values-requires c =
    subst IsRow (sym c.deref.ensures) (seen_here IsRow (λ t. t.items) c.args.lists.now c.loop-list.list-index c.list-item.result c.loop-list-test.true c.list-item.is c.requires)

pub loop-list-preserved : goal.loop-list-preserved
loop-list-preserved c =
    row_more c.loop-list.rows.items c.push.new.self.items c.args.lists.now c.loop-list.list-index c.list-item.result c.of_values.result
    c.loop-list-test.true c.list-item.is (c.of_values.ensures ∙ c.deref.ensures) c.loop-list.invariant c.in_ok-push.ensures.items

pub returns : goal.returns
returns c =
    rows_sorted c.args.lists.now c.loop-list.list-index _ _ _ c.loop-list-test.false c.loop-list.invariant
    c.sort_unstable.ensures.permutation c.sort_unstable.ensures.sorted c.dedup.ensures.filtered
