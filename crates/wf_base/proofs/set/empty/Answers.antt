use Rattle.wf_base.proofs.OfSet.SetLaws.{values_of_nothing}
use Rattle.wf_base.proofs.set.empty.Goals as goal

pub returns : goal.returns
returns c = values_of_nothing
