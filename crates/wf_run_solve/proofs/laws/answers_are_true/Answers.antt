use Rattle.wf_run_solve.proofs.Headline.{answers_true}
use Rattle.wf_run_solve.proofs.laws.answers_are_true.Goals as goal

pub returns : goal.returns
returns c = answers_true
