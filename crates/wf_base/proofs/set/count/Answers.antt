use Rattle.std.proofs.Common.{arith}
use Rattle.wf_base.proofs.OfSet.SetLaws.{length-values_in}
use Rattle.wf_base.proofs.set.count.Goals as goal

pub returns : goal.returns
returns c = omega (arith, c.count.ensures.count, c.count-2.ensures.count, c.count-3.ensures.count, c.count-4.ensures.count, length-values_in c.args.set)
