use Rattle.std.proofs.Common.{arith}
use Rattle.wf_box.proofs.SweepLemmas.{count_few}
use Rattle.wf_box.proofs.tracked.count_candidates.Goals as goal

pub overflow_cast-result : goal.overflow_cast-result
overflow_cast-result c = omega (arith, c.count.ensures, count_few c.args.sets.now, c.requires)

pub returns-clause-few : goal.returns-clause-few
returns-clause-few c = omega (arith, c.count.ensures, count_few c.args.sets.now, c.requires)
