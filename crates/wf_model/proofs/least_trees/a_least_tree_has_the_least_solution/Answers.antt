use Rattle.wf_model.proofs.LeastTrees.{tree_least}
use Rattle.wf_model.proofs.least_trees.a_least_tree_has_the_least_solution.Goals as goal

pub returns : goal.returns
returns c = tree_least
