use Rattle.wf_model.proofs.ClosedBoxes.{closed_supports}
use Rattle.wf_model.proofs.closing.closed_boxes_support_their_candidates.Goals as goal

pub returns : goal.returns
returns c = λ p box execution place process point a k stable. closed_supports p box stable execution place process point a k
