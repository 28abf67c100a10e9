use Rattle.wf_run_solve.specs.Texts.{IsSolved}
use Rattle.wf_run.proofs.Lemmas.{counted}
use Rattle.wf_run_solve.proofs.laws.solving_is_counted.Goals as goal

pub returns : goal.returns
returns c rounds form = counted (IsSolved form) rounds
