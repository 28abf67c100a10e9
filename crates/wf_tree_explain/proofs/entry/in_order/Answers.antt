use Rattle.wf_tree_explain.proofs.SortedMultipliers.{entry_more, entries_sorted}
use Rattle.wf_tree_explain.proofs.entry.in_order.Goals as goal

pub loop-multiplier-preserved : goal.loop-multiplier-preserved
loop-multiplier-preserved c =
    entry_more c.loop-multiplier.entries.items c.push.new.self.items c.args.multipliers.now c.loop-multiplier.multiplier-index c.multiplier-item.result c.of.result
    c.loop-multiplier-test.true c.multiplier-item.is c.of.ensures c.loop-multiplier.invariant c.in_ok-push.ensures.items

pub returns : goal.returns
returns c =
    entries_sorted c.args.multipliers.now c.loop-multiplier.multiplier-index _ _ _ c.loop-multiplier-test.false c.loop-multiplier.invariant
    c.sort_unstable.ensures.permutation c.sort_unstable.ensures.sorted c.dedup.ensures.filtered
