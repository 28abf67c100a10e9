use Rattle.std.proofs.Common.{◌≡◌, ◌<◌, ◌∷◌, ℕ, [], get_or, length}
use Rattle.std.specs.Prelude.{◌%◌}
use Rattle.wf_base.specs.Set.Sets.{values_in}
use Rattle.wf_tree_refine.proofs.choices.identity_choices.Given as goal

abbrev pub invariant-places : goal.invariant-places
invariant-places l = record {
  count : length l.sets.items ≡ l.place;
  room : l.sets.cap ≡ 1024;
  alone : (i : ℕ) → i < l.place → values_in (get_or l.sets.items i []) ≡ (i % 256) ∷ [];
}
