use Rattle.std.proofs.Common.{refl, arith}
use Rattle.wf_report_explain.proofs.OfArgument.Trails.{fewer_step, fewer_end}
use Rattle.wf_report_explain.proofs.argument.state.left_after.Goals as goal

pub loop-loss-preserved : goal.loop-loss-preserved
loop-loss-preserved c = fewer_step c.args.losses.now c.loop-loss.loss-index _ _ _ _ _ (omega arith) refl c.leave_out.ensures c.loop-loss.invariant

pub returns : goal.returns
returns c = fewer_end c.args.losses.now c.loop-loss.loss-index _ _ (omega (arith, c.loop-loss-test.false)) c.loop-loss.invariant
