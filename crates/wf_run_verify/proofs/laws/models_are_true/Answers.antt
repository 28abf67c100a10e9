use Rattle.wf_run_verify.proofs.ModelsAreTrue.{models_true}
use Rattle.wf_run_verify.proofs.laws.models_are_true.Goals as goal

pub returns : goal.returns
returns c = models_true
