use Rattle.std.proofs.Common.{◌≡◌, ◌<◌, ℕ, Some, nat_eq}
use Rattle.std.specs.HashMap.{get}
use Rattle.wf_tree_refine.specs.Forest.{AreParents, IsForest}
use Rattle.wf_tree_refine.specs.Keys.{HaveBytes}
use Rattle.wf_tree_refine.proofs.Joining.{IsJoining}
use Rattle.wf_tree_refine.proofs.parts.join_at.Given as goal

abbrev pub invariant-rows : goal.invariant-rows
invariant-rows l = record {
  parents : AreParents l.parents;
  small : HaveBytes l.rows l.number;
  low : (q j : ℕ) → get nat_eq l.firsts q ≡ Some j → j < l.number;
  joining : (label : ℕ → ℕ) → IsForest l.fn.parents label → (new : ℕ → ℕ) × IsForest l.parents new × IsJoining l.place l.rows l.number (get nat_eq l.firsts) label new;
}
