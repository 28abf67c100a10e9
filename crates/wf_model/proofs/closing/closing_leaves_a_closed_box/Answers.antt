use Rattle.wf_model.proofs.ClosedBoxes.{closed_branch}
use Rattle.wf_model.proofs.closing.closing_leaves_a_closed_box.Goals as goal

pub returns : goal.returns
returns c = closed_branch
