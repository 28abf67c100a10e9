use Rattle.std.proofs.Common.{◌≡◌, ℕ, length}
use Rattle.wf_tree_refine.specs.Forest.{AreParents, IsForest}
use Rattle.wf_tree_refine.proofs.Numbers.{IsFinest}
use Rattle.wf_tree_refine.proofs.parts.component_indices.Given as goal

abbrev pub invariant-places : goal.invariant-places
invariant-places l = record {
  each : length l.parents.items ≡ length l.rows;
  parents : AreParents l.parents.items;
  labels : (label : ℕ → ℕ) × IsForest l.parents.items label × IsFinest l.ways l.size l.rows l.place label;
}
