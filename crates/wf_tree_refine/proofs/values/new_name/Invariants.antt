use Rattle.std.proofs.Common.{◌≡◌, ◌≤◌, flat_map, take, vec_items}
use Rattle.wf_tree_model.specs.Trees.{largest}
use Rattle.wf_tree_refine.proofs.values.new_name.Given as goal

abbrev pub invariant-simplices : goal.invariant-simplices
invariant-simplices l = record {
  most : l.most ≡ largest (flat_map (λ v. flat_map (λ tuple. tuple) (vec_items v)) (take l.tuples-index l.rows));
  few : l.most ≤ 255;
}
