use Rattle.wf_core.proofs.StepInvariants.{first_place}
use Rattle.wf_core.proofs.laws.first_true_place.Goals as goal

pub returns : goal.returns
returns c = first_place
