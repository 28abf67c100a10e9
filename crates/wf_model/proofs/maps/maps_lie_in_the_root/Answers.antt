use Rattle.wf_model.proofs.Headline.{lies_in_root}
use Rattle.wf_model.proofs.maps.maps_lie_in_the_root.Goals as goal

pub returns : goal.returns
returns c = lies_in_root
