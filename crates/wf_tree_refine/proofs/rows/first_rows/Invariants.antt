use Rattle.std.proofs.Common.{◌≡◌, ◌<◌, ℕ, [], get_or, length, map, vec_items}
use Rattle.wf_tree_model.specs.Counting.Rules.{no_rule}
use Rattle.wf_tree_refine.proofs.rows.first_rows.Given as goal

abbrev pub invariant-simplices : goal.invariant-simplices
invariant-simplices l = record {
  count : length l.rows.items ≡ l.simplex;
  room : l.rows.cap ≡ l.count;
  first : (i : ℕ) → i < l.simplex → get_or (map vec_items l.rows.items) i [] ≡ (get_or l.task.delta i no_rule).tuples;
}
