use Rattle.wf_base.proofs.OfSet.SetLaws.{values_of_part}
use Rattle.wf_base.proofs.set.from_set64.Goals as goal

pub returns : goal.returns
returns c = values_of_part c.args.part
