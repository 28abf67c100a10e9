use Rattle.wf_model.proofs.Numbers.{appearances_points}
use Rattle.wf_model.proofs.maps.first_appearances_are_the_points.Goals as goal

pub returns : goal.returns
returns c = appearances_points
