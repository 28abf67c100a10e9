use Rattle.std.proofs.Common.{◌≡◌, take}
use Rattle.wf_tree_model.specs.Trees.{largest}
use Rattle.wf_tree_refine.proofs.values.largest_in.Given as goal

abbrev pub invariant-values : goal.invariant-values
invariant-values l = l.most ≡ largest (take l.value-index l.values)
