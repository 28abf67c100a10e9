use Rattle.wf_model.proofs.LeastChecked.{leading_lines_accepted}
use Rattle.wf_model.proofs.least_trees.lines_of_a_least_tree_are_accepted.Goals as goal

pub returns : goal.returns
returns c = leading_lines_accepted
