use Rattle.std.proofs.Common.{◌≤◌, map, vec_items}
use Rattle.wf_tree_refine.specs.AtHand.{IsAtHand}
use Rattle.wf_tree_finder.proofs.splits.split_all.Given as goal

-- the task at hand fits its inputs, and no level comes back
abbrev pub invariant-splits : goal.invariant-splits
invariant-splits g l = IsAtHand l.search.task.now (map vec_items l.apart.items) × (l.left ≤ l.levels)
