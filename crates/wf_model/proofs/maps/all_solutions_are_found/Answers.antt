use Rattle.wf_model.proofs.SolutionTests.{tried}
use Rattle.wf_model.proofs.maps.all_solutions_are_found.Goals as goal

pub returns : goal.returns
returns c = tried
