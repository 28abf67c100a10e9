use Rattle.wf_tree_model.proofs.TreesLeaveNoMap.{obstruction_leaves_no_map}
use Rattle.wf_tree_model.proofs.laws.an_obstruction_leaves_no_map.Goals as goal

pub returns : goal.returns
returns c = obstruction_leaves_no_map
