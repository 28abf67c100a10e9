use Rattle.wf_core.proofs.Runs.{legal_event, step_one}
use Rattle.wf_core.proofs.laws.steps_are_legal.Goals as goal

pub returns : goal.returns
returns c = record { legal = legal_event; one = step_one }
