use Rattle.std.proofs.Common.{◌≡◌, ◌++◌, ℕ, List, length}
use Rattle.wf_sat_formula.specs.SolverText.{words}
use Rattle.wf_sat_cnf.specs.Reading.{HasRoom, numbered, stated_on}
use Rattle.wf_sat_cnf.proofs.solver.ModelReader.read_words.Given as goal

abbrev pub invariant-words : goal.invariant-words
invariant-words l =
    HasRoom l.self
    × (l.self.variables ≡ l.fn.self.variables)
    × ((last : ℕ) (later : List (ℕ × List ℕ)) →
    stated_on last l.self (numbered l.number (words l.left) ++ later) ≡ stated_on last l.fn.self (numbered l.number (words l.text) ++ later))

abbrev pub decreases-words : goal.decreases-words
decreases-words l = length l.left
