use Rattle.wf_model.proofs.LeastSolutions.{solution_in_root}
use Rattle.wf_model.proofs.maps.solutions_lie_in_the_root.Goals as goal

pub returns : goal.returns
returns c = solution_in_root
