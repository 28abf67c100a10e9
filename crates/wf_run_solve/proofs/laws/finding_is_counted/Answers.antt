use Rattle.wf_run_solve.specs.Texts.{IsFound}
use Rattle.wf_run.proofs.Lemmas.{counted}
use Rattle.wf_run_solve.proofs.laws.finding_is_counted.Goals as goal

pub returns : goal.returns
returns c rounds form = counted (IsFound form) rounds
