use Rattle.std.proofs.Common.{arith}
use Rattle.wf_complex.proofs.Ranks.{rank_in-with, rank_in-without, rank_in-low}
use Rattle.wf_complex.proofs.views.rank.Goals as goal
use Rattle.wf_complex.proofs.views.rank.Goals.{then-processes-lower-eq1, else-processes-lower-eq1}

pub overflow_add-rank : goal.overflow_add-rank
overflow_add-rank c = omega (arith, rank_in-low c.args.processes c.loop-lower.lower)

pub loop-lower-preserved : goal.loop-lower-preserved
loop-lower-preserved c =
    elim c.if-processes-lower-eq1.branch [
      | then-processes-lower-eq1 w ↦ rank_in-with c.args.processes c.loop-lower.lower c.loop-lower.rank c.if-processes-lower-eq1.rank c.loop-lower.invariant w.rank-is w.if-processes-lower-eq1.true
      | else-processes-lower-eq1 w ↦ rank_in-without c.args.processes c.loop-lower.lower c.loop-lower.rank c.if-processes-lower-eq1.rank c.loop-lower.invariant w.rank-is w.if-processes-lower-eq1.false
    ]
