use Rattle.wf_tree_model.proofs.ViewsAfter.{stars_connected}
use Rattle.wf_tree_model.proofs.laws.stars_are_connected.Goals as goal

pub returns : goal.returns
returns c = stars_connected
