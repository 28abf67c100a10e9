use Rattle.std.proofs.Common.{◌≡◌, ◌<◌, ◌≤◌, ℕ, length, slice_index}
use Rattle.wf_tree_refine.specs.Forest.{IsForest, rank}
use Rattle.wf_tree_refine.proofs.parts.ranks.Given as goal

abbrev pub invariant-numbers : goal.invariant-numbers
invariant-numbers l = record {
  count : length l.ranks.items ≡ l.number;
  few : l.roots ≤ l.number;
  room : l.ranks.cap ≡ length l.parents;
  roots : (label : ℕ → ℕ) → IsForest l.parents label → l.roots ≡ rank label l.number;
  ranks : (label : ℕ → ℕ) → IsForest l.parents label → (i : ℕ) → i < l.number → slice_index l.ranks.items i ≡ rank label (label i);
}
