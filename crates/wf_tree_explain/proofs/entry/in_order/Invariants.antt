use Rattle.std.proofs.Common.{◌≡◌, take}
use Rattle.wf_tree_steps.specs.Balance.Multipliers.{multipliers_seen}
use Rattle.wf_tree_explain.proofs.entry.in_order.Given as goal

abbrev pub invariant-loop-multiplier : goal.invariant-loop-multiplier
invariant-loop-multiplier l = l.entries.items ≡ multipliers_seen (take l.multiplier-index l.multipliers)
