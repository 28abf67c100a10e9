use Rattle.wf_run_verify.proofs.HintCounts.{proved_by_hints}
use Rattle.wf_run_verify.proofs.laws.hinted_proving_is_counted.Goals as goal

pub returns : goal.returns
returns c = proved_by_hints
