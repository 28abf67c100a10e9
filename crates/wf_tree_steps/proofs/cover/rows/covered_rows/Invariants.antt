use Rattle.std.proofs.Common.{◌≡◌, ◌<◌, ◌+◌, ℕ, [], get_or, length, map, sum_by, take, vec_items}
use Rattle.std.specs.Cmp.Lexicographic.{slice_cmp}
use Rattle.std.specs.Ordering.{nat_cmp}
use Rattle.wf_model.specs.Lists.{in_order}
use Rattle.wf_tree_model.specs.Counting.Rules.{rule_at}
use Rattle.wf_tree_model.specs.Covers.{tuples_covered}
use Rattle.wf_tree_refine.specs.AtHand.{at_hand}
use Rattle.wf_tree_refine.specs.Near.{most_at_hand}
use Rattle.wf_tree_steps.specs.Cover.LiftSeen.{lift_seen}
use Rattle.wf_tree_steps.proofs.cover.rows.covered_rows.Given as goal

abbrev pub invariant-simplices : goal.invariant-simplices
invariant-simplices l = record {
  count : length l.found.items ≡ l.place;
  room : l.found.cap ≡ length l.rows;
  left : l.left + sum_by (λ rule. length (tuples_covered (lift_seen l.lift) rule)) (take l.place (at_hand l.task (map vec_items l.rows)).delta) ≡ most_at_hand;
  made : (i : ℕ) → i < l.place → get_or (map vec_items l.found.items) i [] ≡ in_order (slice_cmp nat_cmp) (tuples_covered (lift_seen l.lift) (rule_at (at_hand l.task (map vec_items l.rows)) i));
}
