use Rattle.std.proofs.Common.{◌≡◌, drop}
use Rattle.std.specs.List.{list_all}
use Rattle.wf_sat_formula.specs.SolverText.{is_digit}
use Rattle.wf_sat_cnf.proofs.solver.are_digits.Given as goal

abbrev pub invariant-loop-byte : goal.invariant-loop-byte
invariant-loop-byte l = list_all is_digit (drop l.byte-index l.word) ≡ list_all is_digit l.word
