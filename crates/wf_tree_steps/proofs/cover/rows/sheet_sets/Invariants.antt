use Rattle.std.proofs.Common.{◌≡◌, ◌<◌, ℕ, [], get_or, length}
use Rattle.std.specs.Prelude.{◌/◌, ◌%◌}
use Rattle.wf_base.specs.Set.Sets.{values_in}
use Rattle.wf_tree_refine.specs.Choices.{sets_listed}
use Rattle.wf_tree_steps.specs.Cover.LiftSeen.{on_sheets}
use Rattle.wf_tree_steps.proofs.cover.rows.sheet_sets.Given as goal

abbrev pub invariant-places : goal.invariant-places
invariant-places l = record {
  count : length l.sets.items ≡ l.place;
  room : l.sets.cap ≡ sets_listed;
  made : (i : ℕ) → i < l.place → i % 256 < l.new → values_in (get_or l.sets.items i []) ≡ on_sheets l.simplex l.sheets l.new (i / 256) (i % 256);
}
