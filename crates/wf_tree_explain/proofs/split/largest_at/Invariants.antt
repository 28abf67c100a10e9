use Rattle.std.proofs.Common.{◌≡◌, get_or, map, take}
use Rattle.wf_tree_model.specs.Trees.{largest}
use Rattle.wf_tree_explain.proofs.split.largest_at.Given as goal

abbrev pub invariant-rows : goal.invariant-rows
invariant-rows l = l.most ≡ largest (take l.row-index (map (λ row. get_or row l.place 0) l.rows))
