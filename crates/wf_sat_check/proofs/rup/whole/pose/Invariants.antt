use Rattle.std.proofs.Common.{take}
use Rattle.wf_sat_check.specs.Rup.Posed.{IsPosed}
use Rattle.wf_sat_check.specs.Rup.Whole.{formula_of}
use Rattle.wf_sat_check.proofs.rup.whole.pose.Given as goal

abbrev pub invariant-clauses : goal.invariant-clauses
invariant-clauses l = IsPosed (formula_of l.variables (take l.clause-index l.clauses)) l.checker
