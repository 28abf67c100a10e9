use Rattle.std.proofs.Common.{◌≡◌, ◌<◌, ℕ, [], get_or, length, map, vec_items}
use Rattle.std.specs.Cmp.Lexicographic.{slice_cmp}
use Rattle.std.specs.Ordering.{nat_cmp}
use Rattle.wf_model.specs.Lists.{in_order}
use Rattle.wf_tree_model.specs.Counting.Rules.{rule_at}
use Rattle.wf_tree_model.specs.Cases.{components, tuples_in_case}
use Rattle.wf_tree_refine.specs.AtHand.{at_hand}
use Rattle.wf_tree_refine.proofs.cases.in_case.Given as goal

abbrev pub invariant-simplices : goal.invariant-simplices
invariant-simplices l = record {
  count : length l.found.items ≡ l.place;
  room : l.found.cap ≡ length l.rows;
  made : (i : ℕ) → i < l.place → get_or (map vec_items l.found.items) i [] ≡ in_order (slice_cmp nat_cmp) (tuples_in_case (at_hand l.task (map vec_items l.rows)) (rule_at (at_hand l.task (map vec_items l.rows)) l.simplex)
      (get_or (components (rule_at (at_hand l.task (map vec_items l.rows)) l.simplex)) l.number []) (rule_at (at_hand l.task (map vec_items l.rows)) i));
}
