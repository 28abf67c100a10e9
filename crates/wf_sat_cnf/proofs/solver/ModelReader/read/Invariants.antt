use Rattle.std.proofs.Common.{◌≡◌, ◌+◌, length}
use Rattle.wf_sat_formula.specs.SolverText.{lines, words_from}
use Rattle.wf_sat_cnf.specs.Reading.{HasRoom, stated_on}
use Rattle.wf_sat_cnf.proofs.solver.ModelReader.read.Given as goal

abbrev pub invariant-lines : goal.invariant-lines
invariant-lines l =
    HasRoom l.self
    × (l.line + length (lines l.left) ≡ length (lines l.text) + 1)
    × (stated_on (length (lines l.text)) l.self (words_from l.line (lines l.left))
    ≡ stated_on (length (lines l.text)) l.fn.self (words_from 1 (lines l.text)))

abbrev pub decreases-lines : goal.decreases-lines
decreases-lines l = length l.left
