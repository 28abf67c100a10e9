use Rattle.std.proofs.Common.{◌≡◌, flat_map, take}
use Rattle.wf_tree_model.specs.Trees.{largest}
use Rattle.wf_tree_refine.proofs.values.largest_of.Given as goal

abbrev pub invariant-rows : goal.invariant-rows
invariant-rows l = l.most ≡ largest (flat_map (λ tuple. tuple) (take l.row-index l.rows))
