use Rattle.std.proofs.Common.{◌≡◌, ◌≤◌, length}
use Rattle.wf_sat_formula.specs.SolverText.{words}
use Rattle.wf_sat_cnf.proofs.solver.next_word.Given as goal

abbrev pub invariant-blanks : goal.invariant-blanks
invariant-blanks l = (words l.left ≡ words l.text) × (length l.left ≤ length l.text)

abbrev pub decreases-blanks : goal.decreases-blanks
decreases-blanks l = length l.left
