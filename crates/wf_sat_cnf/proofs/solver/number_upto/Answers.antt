use Rattle.std.proofs.Common.{arith}
use Rattle.wf_sat_cnf.proofs.SolverLemmas.{too_great}
use Rattle.wf_sat_cnf.proofs.solver.number_upto.Goals as goal

pub returns-then-number-from : goal.returns-then-number-from
returns-then-number-from c =
    too_great c.args.most c.loop-digit.number c.loop-digit.digit-index c.args.digits.now c.loop-digit.invariant.0 c.loop-digit-test.true
    (omega (arith, c.if-number-from.true, c.from.ensures, c.from-in-loop-digit.ensures, c.saturating_sub.ensures))
