use Rattle.wf_model.proofs.SolutionTests.{faultless}
use Rattle.wf_model.proofs.maps.faultless_maps_are_solutions.Goals as goal

pub returns : goal.returns
returns c = faultless
