use Rattle.wf_model.proofs.ClosedBoxes.{solution_left}
use Rattle.wf_model.proofs.closing.closing_keeps_solutions.Goals as goal

pub returns : goal.returns
returns c = λ p box m in_range solves. solution_left p in_range m solves box
