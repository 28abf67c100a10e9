use Rattle.wf_model.proofs.WellFormed.{task_well_formed}
use Rattle.wf_model.proofs.maps.problems_of_tasks_are_well_formed.Goals as goal

pub returns : goal.returns
returns c = task_well_formed
