use Rattle.wf_model.proofs.ClosedBoxes.{closed_single_solves}
use Rattle.wf_model.proofs.closing.closed_boxes_of_single_candidates_are_solutions.Goals as goal

pub returns : goal.returns
returns c = closed_single_solves
