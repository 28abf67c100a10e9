use Rattle.wf_model.proofs.OrderedCovers.{split_covers, split_closed}
use Rattle.wf_model.proofs.covers.split_covers_in_order.Goals as goal

pub returns : goal.returns
returns c = record { cover = split_covers; branches = split_closed }
