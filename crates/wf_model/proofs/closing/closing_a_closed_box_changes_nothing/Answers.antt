use Rattle.wf_model.proofs.ClosedBoxes.{closing_again}
use Rattle.wf_model.proofs.closing.closing_a_closed_box_changes_nothing.Goals as goal

pub returns : goal.returns
returns c = closing_again
