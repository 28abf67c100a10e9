use Rattle.wf_base.proofs.OfSet.PartLaws.{values_cleared}
use Rattle.wf_base.proofs.set.set64.without.Goals as goal

pub returns : goal.returns
returns c = values_cleared c.args.part c.args.value c.requires
