use Rattle.wf_base.proofs.OfSet.PartLaws.{values_lacked}
use Rattle.wf_base.proofs.set.set64.difference.Goals as goal

pub returns : goal.returns
returns c = values_lacked c.args.part c.args.other c.ranges.other.fits
