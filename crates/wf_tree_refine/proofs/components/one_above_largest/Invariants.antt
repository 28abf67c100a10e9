use Rattle.std.proofs.Common.{◌≡◌, ◌<◌, ◌+◌, ℕ, get_or, length}
use Rattle.wf_tree_refine.proofs.components.one_above_largest.Given as goal

abbrev pub invariant-numbers : goal.invariant-numbers
invariant-numbers l = record {
  above : (i : ℕ) → i < l.number-index → get_or l.numbers i 0 < l.above;
  first : 0 < l.above → (i : ℕ) × (i < length l.numbers) × (get_or l.numbers i 0 + 1 ≡ l.above);
}
