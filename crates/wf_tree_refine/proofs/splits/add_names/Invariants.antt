use Rattle.std.proofs.Common.{◌≡◌, ◌==◌, ◌<◌, ◌≤◌, ◌||◌, ◌&&◌, ℕ, All, drop, length, take}
use Rattle.std.specs.List.{AllByRecursion}
use Rattle.wf_model.specs.Lists.{has}
use Rattle.wf_tree_refine.specs.Choices.{chosen_by, names_beside, sets_listed}
use Rattle.wf_tree_refine.proofs.splits.add_names.Given as goal

abbrev pub invariant-rows : goal.invariant-rows
invariant-rows l = record {
  count : length l.sets ≡ sets_listed;
  names : (p v z : ℕ) → p < 4 → v < 256 → (has (chosen_by l.sets p v) z || (l.process == p && has (names_beside l.place v (drop l.number l.rows) (drop l.number l.named)) z))
      ≡ (has (chosen_by l.initial.sets p v) z || (l.process == p && has (names_beside l.place v l.rows l.named) z));
  small : AllByRecursion (All (λ name. name ≤ 255)) (take l.number l.named);
}
