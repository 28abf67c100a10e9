use Rattle.std.proofs.Common.{◌∙◌, sym}
use Rattle.wf_base.proofs.OfSet.SetLaws.{other_has}
use Rattle.wf_base.proofs.set.contains.Goals as goal

pub returns : goal.returns
returns c = c.contains.ensures.has ∙ sym (other_has c.args.set c.args.value c.ranges.value.fits)
