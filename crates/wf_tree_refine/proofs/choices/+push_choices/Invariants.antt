use Rattle.std.proofs.Common.{◌≡◌, ◌≤◌, ◌-◌, ◌+◌, ◌++◌, ◌∷◌, drop, flat_map, length, map, take}
use Rattle.wf_base.specs.Set.Sets.{values_in}
use Rattle.wf_tree_model.specs.Tuples.{choices_of}
use Rattle.wf_tree_refine.specs.Choices.{chosen_by}
use Rattle.wf_tree_refine.proofs.choices.+push_choices.Given as goal

abbrev pub decreases-push_choices : goal.decreases-push_choices
decreases-push_choices l = length l.row.now - l.place

abbrev pub decreases-values : goal.decreases-values
decreases-values l = length (values_in l.left)

abbrev pub invariant-values : goal.invariant-values
invariant-values l = record {
  room : length l.fn.values ≡ 4;
  within : length l.found.items ≤ l.chooser.most;
  whole : l.found.items
      ++ map (λ rest. take l.place l.fn.values ++ rest)
      (flat_map (λ z. map (λ rest. z ∷ rest) (choices_of (chosen_by l.chooser.sets.now) (drop (l.place + 1) l.chooser.processes.now) (drop (l.place + 1) l.row)))
      (values_in l.left))
      ≡ l.initial.found.items
      ++ map (λ rest. take l.place l.fn.values ++ rest)
      (choices_of (chosen_by l.chooser.sets.now) (drop l.place l.chooser.processes.now) (drop l.place l.row));
}
