use Rattle.wf_model.proofs.OrderedCovers.{one_least}
use Rattle.wf_model.proofs.search.a_box_has_one_least_solution.Goals as goal

pub returns : goal.returns
returns c = one_least
