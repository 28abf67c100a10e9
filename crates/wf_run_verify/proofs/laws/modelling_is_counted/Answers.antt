use Rattle.wf_run_verify.proofs.ModelCounts.{modelled}
use Rattle.wf_run_verify.proofs.laws.modelling_is_counted.Goals as goal

pub returns : goal.returns
returns c = modelled
