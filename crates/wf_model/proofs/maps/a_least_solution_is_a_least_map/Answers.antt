use Rattle.wf_model.proofs.Numbers.{least_map}
use Rattle.wf_model.proofs.maps.a_least_solution_is_a_least_map.Goals as goal

pub returns : goal.returns
returns c = least_map
