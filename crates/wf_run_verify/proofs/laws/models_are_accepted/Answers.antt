use Rattle.wf_run_verify.proofs.ModelsAreTrue.{models_accepted}
use Rattle.wf_run_verify.proofs.laws.models_are_accepted.Goals as goal

pub returns : goal.returns
returns c = models_accepted
