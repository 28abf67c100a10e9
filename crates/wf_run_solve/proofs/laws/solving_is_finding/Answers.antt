use Rattle.wf_run_solve.proofs.RunsWithoutAccount.{solving_finds}
use Rattle.wf_run_solve.proofs.laws.solving_is_finding.Goals as goal

pub returns : goal.returns
returns c = solving_finds
