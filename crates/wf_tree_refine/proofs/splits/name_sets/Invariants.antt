use Rattle.std.proofs.Common.{◌≡◌, ◌<◌, ◌≤◌, ◌∷◌, ℕ, All, flat_map, length, map}
use Rattle.std.specs.List.{AllByRecursion}
use Rattle.wf_model.specs.Lists.{below, has}
use Rattle.wf_tree_model.specs.Splits.{Splitting, names_at, with_names}
use Rattle.wf_tree_refine.specs.Choices.{chosen_by, sets_listed}
use Rattle.wf_tree_refine.specs.SplitSeen.{rule_of}
use Rattle.wf_tree_refine.proofs.splits.name_sets.Given as goal

abbrev pub invariant-places : goal.invariant-places
invariant-places l = record {
  count : length l.sets.items ≡ sets_listed;
  names : (s : Splitting) → s.rule ≡ rule_of l.simplex l.rows → l.named ≡ map (with_names s) l.rows → (p v z : ℕ) → p < 4 → v < 256 → has (chosen_by l.sets.items p v) z ≡ has (v ∷ flat_map (names_at s p v) (below l.place)) z;
  small : 1 ≤ l.place → AllByRecursion (All (λ name. name ≤ 255)) l.named;
}
