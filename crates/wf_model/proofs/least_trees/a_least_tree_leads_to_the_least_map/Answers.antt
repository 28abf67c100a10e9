use Rattle.wf_model.proofs.LeastTrees.{tree_least_map}
use Rattle.wf_model.proofs.least_trees.a_least_tree_leads_to_the_least_map.Goals as goal

pub returns : goal.returns
returns c = tree_least_map
