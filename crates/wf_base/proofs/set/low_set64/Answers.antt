use Rattle.wf_base.proofs.OfSet.SetLaws.{values_of_first}
use Rattle.wf_base.proofs.set.low_set64.Goals as goal

pub returns : goal.returns
returns c = values_of_first c.args.set
