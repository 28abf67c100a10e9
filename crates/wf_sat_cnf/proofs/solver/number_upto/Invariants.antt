use Rattle.std.proofs.Common.{◌≡◌, ◌≤◌, drop}
use Rattle.wf_sat_formula.specs.SolverText.{number_of}
use Rattle.wf_sat_cnf.specs.Reading.{number_with}
use Rattle.wf_sat_cnf.proofs.solver.number_upto.Given as goal

abbrev pub invariant-loop-digit : goal.invariant-loop-digit
invariant-loop-digit l = (number_with l.number (drop l.digit-index l.digits) ≡ number_of l.digits) × (l.number ≤ l.most)
