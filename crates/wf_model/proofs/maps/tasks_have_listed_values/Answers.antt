use Rattle.wf_model.proofs.WellFormed.{task_listed}
use Rattle.wf_model.proofs.maps.tasks_have_listed_values.Goals as goal

pub returns : goal.returns
returns c = task_listed
