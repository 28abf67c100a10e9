use Rattle.wf_base.proofs.OfSet.PartLaws.{value_alone}
use Rattle.wf_base.proofs.set.set64.singleton.Goals as goal

pub returns : goal.returns
returns c = value_alone c.args.value c.requires
