use Rattle.std.proofs.Common.{◌≡◌, ◌<◌, ℕ, length}
use Rattle.wf_tree_refine.specs.Forest.{AreParents, IsForest}
use Rattle.wf_tree_refine.proofs.roots.root_of.Given as goal

abbrev pub invariant-up : goal.invariant-up
invariant-up l = record {
  inside : l.at < length l.parents;
  parents : AreParents l.parents;
  forest : (label : ℕ → ℕ) → IsForest l.fn.parents label → IsForest l.parents label;
  root : (label : ℕ → ℕ) → IsForest l.fn.parents label → label l.at ≡ label l.fn.number;
}

abbrev pub decreases-up : goal.decreases-up
decreases-up l = l.at
