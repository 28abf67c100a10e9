use Rattle.std.proofs.Common.{◌≡◌, ◌≤◌, ℕ, drop, length}
use Rattle.std.specs.BTreeMap.{get}
use Rattle.std.specs.Ordering.{nat_cmp}
use Rattle.std.specs.List.{AllByRecursion}
use Rattle.wf_tree_steps.specs.Cover.Turns.{HasBytes, turn_in}
use Rattle.wf_tree_steps.proofs.cover.turns.index_moves.Given as goal

-- the table has the moves from a number on
abbrev pub invariant-moves : goal.invariant-moves
invariant-moves l = record {
  inside : l.number ≤ length l.moves;
  same : (q : ℕ) → get nat_cmp l.turns q ≡ turn_in l.number (drop l.number l.moves) q;
  small : AllByRecursion HasBytes (drop l.number l.moves);
}
