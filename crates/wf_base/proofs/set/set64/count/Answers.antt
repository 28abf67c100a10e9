use Rattle.std.proofs.Common.{sym, arith}
use Rattle.wf_base.proofs.OfSet.PartLaws.{few_values, length-part_values}
use Rattle.wf_base.proofs.set.set64.count.Goals as goal

pub returns : goal.returns
returns c =
    let counted = length-part_values c.args.part c.ranges.part.fits in
    record { count = sym counted; few = omega (arith, counted, few_values c.args.part) }
