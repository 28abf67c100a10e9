use Rattle.wf_base.proofs.OfSet.PartLaws.{values_met}
use Rattle.wf_base.proofs.set.set64.intersection.Goals as goal

pub returns : goal.returns
returns c = values_met c.args.part c.args.other
