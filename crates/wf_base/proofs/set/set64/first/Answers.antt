use Rattle.std.proofs.Common.{◌<◌, subst, sym}
use Rattle.wf_base.proofs.OfSet.PartLaws.{first_value, first_small}
use Rattle.wf_base.proofs.set.set64.first.Goals as goal

pub returns : goal.returns
returns c = record {
  first = first_value c.args.part c.ranges.part.fits c.requires;
  small = subst (λ v. v < 64) (sym (first_value c.args.part c.ranges.part.fits c.requires)) (first_small c.args.part c.requires);
}
