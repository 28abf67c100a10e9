use Rattle.std.proofs.Common.{arith}
use Rattle.wf_base.proofs.OfSet.PartLaws.{later_values, some_bits}
use Rattle.wf_base.proofs.set.set64.rest.Goals as goal

pub overflow_sub-result : goal.overflow_sub-result
overflow_sub-result c = let some = some_bits c.args.part c.requires in omega (arith, some)

pub returns : goal.returns
returns c = later_values c.args.part c.ranges.part.fits c.requires
