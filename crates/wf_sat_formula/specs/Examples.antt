-- Worked examples, by computation.
use Rattle.std.specs.Prelude.{◌≡◌, ℕ, [], ◌∷◌, length, codes, refl}
use Rattle.std.specs.Fmt.{digits}
use Rattle.wf_model.specs.Task.{Task}
use Rattle.wf_model.specs.ExampleTasks.{path, consensus, renaming_2_2, alone, one}
use Rattle.wf_sat_text.specs.Clauses.Formula.{pos, neg}
use Rattle.wf_sat_formula.specs.Patterns.{place_lists, minimal_patterns}
use Rattle.wf_sat_formula.specs.Encoding.{question}
use Rattle.wf_sat_formula.specs.Dimacs.{formula_text, question_text}

pub choices_of_three_places : place_lists 3
    ≡ [] ∷ (0 ∷ []) ∷ (1 ∷ []) ∷ (2 ∷ []) ∷ (0 ∷ 1 ∷ []) ∷ (0 ∷ 2 ∷ []) ∷ (1 ∷ 2 ∷ []) ∷ (0 ∷ 1 ∷ 2 ∷ []) ∷ []
choices_of_three_places = refl

-- two values that agree
pub patterns_of_agreement : minimal_patterns 2 (0 ∷ 1 ∷ []) ((0 ∷ 0 ∷ []) ∷ (1 ∷ 1 ∷ []) ∷ [])
    ≡ ((0, 0) ∷ (1, 1) ∷ []) ∷ ((0, 1) ∷ (1, 0) ∷ []) ∷ []
patterns_of_agreement = refl

-- three values, not all different from 0: nothing smaller is forbidden
pub patterns_of_not_all_ones : minimal_patterns 3 (0 ∷ 1 ∷ []) ((0 ∷ 0 ∷ 1 ∷ []) ∷ (0 ∷ 1 ∷ 0 ∷ []) ∷ (0 ∷ 1 ∷ 1 ∷ []) ∷ (1 ∷ 0 ∷ 0 ∷ []) ∷ (1 ∷ 0 ∷ 1 ∷ []) ∷ (1 ∷ 1 ∷ 0 ∷ []) ∷ []) ≡ ((0, 0) ∷ (1, 0) ∷ (2, 0) ∷ []) ∷ ((0, 1) ∷ (1, 1) ∷ (2, 1) ∷ []) ∷ []
patterns_of_not_all_ones = refl

-- a value that occurs nowhere is forbidden alone; the others by size, places and values
pub patterns_by_size : minimal_patterns 2 (0 ∷ 1 ∷ 2 ∷ []) ((0 ∷ 1 ∷ []) ∷ (0 ∷ 2 ∷ []) ∷ (1 ∷ 1 ∷ []) ∷ [])
    ≡ ((0, 2) ∷ []) ∷ ((1, 0) ∷ []) ∷ ((0, 1) ∷ (1, 2) ∷ []) ∷ []
patterns_by_size = refl

-- a rule that allows nothing forbids the empty pattern, and that alone
pub patterns_of_nothing : minimal_patterns 2 (0 ∷ 1 ∷ []) [] ≡ [] ∷ []
patterns_of_nothing = refl

-- one that allows all forbids nothing
pub patterns_of_everything : minimal_patterns 1 (0 ∷ 1 ∷ []) ((0 ∷ []) ∷ (1 ∷ []) ∷ []) ≡ []
patterns_of_everything = refl

-- consensus of two after one round: points 0 to 3, variables 2 v + 1 and 2 v + 2
pub consensus_formula : (question consensus 1).clauses ≡
    (pos 1 ∷ pos 2 ∷ []) ∷ (pos 3 ∷ pos 4 ∷ []) ∷ (pos 5 ∷ pos 6 ∷ []) ∷ (pos 7 ∷ pos 8 ∷ [])
    ∷ (neg 2 ∷ []) ∷ (neg 3 ∷ [])
    ∷ (neg 5 ∷ neg 8 ∷ []) ∷ (neg 6 ∷ neg 7 ∷ [])
    ∷ (neg 1 ∷ neg 8 ∷ []) ∷ (neg 2 ∷ neg 7 ∷ [])
    ∷ (neg 5 ∷ neg 4 ∷ []) ∷ (neg 6 ∷ neg 3 ∷ [])
    ∷ []
consensus_formula = refl

-- without rounds a symmetric task has one point, which stands at both places of the last execution
pub renaming_formula_without_rounds : (question renaming_2_2 0).clauses
    ≡ (pos 1 ∷ pos 2 ∷ []) ∷ (neg 1 ∷ neg 1 ∷ []) ∷ (neg 2 ∷ neg 2 ∷ []) ∷ []
renaming_formula_without_rounds = refl

abbrev sizes : Task → ℕ → ℕ × ℕ
sizes t r = ((question t r).variables, length (question t r).clauses)

pub path_3_sizes : sizes (path 3) 1 ≡ (16, 28)
path_3_sizes = refl

pub formula_text_of_consensus_without_rounds : formula_text (question consensus 0)
    ≡ codes "p cnf 4 6\n1 2 0\n3 4 0\n-2 0\n-3 0\n-1 -4 0\n-2 -3 0\n"
unfolding digits
formula_text_of_consensus_without_rounds = refl

pub text_of_consensus : question_text consensus 1 ≡ codes "c wfcheck formula 1\nc processes 2\nc rounds 1\nc points 4\nc executions 5\nc values 0 1\nc variable 2 * point + place of the value\np cnf 8 12\n1 2 0\n3 4 0\n5 6 0\n7 8 0\n-2 0\n-3 0\n-5 -8 0\n-6 -7 0\n-1 -8 0\n-2 -7 0\n-5 -4 0\n-6 -3 0\n"
unfolding digits
text_of_consensus = refl

-- in a symmetric task a point may stand at both places of an execution
pub text_of_renaming_without_rounds : question_text renaming_2_2 0 ≡ codes "c wfcheck formula 1\nc processes 2\nc rounds 0\nc points 1\nc executions 3\nc values 0 1\nc variable 2 * point + place of the value\np cnf 2 3\n1 2 0\n-1 -1 0\n-2 -2 0\n"
unfolding digits
text_of_renaming_without_rounds = refl

-- a rule that allows nothing is the empty clause
pub text_of_no_tuples : question_text (alone [] (one 0 7 ∷ [])) 0 ≡ codes "c wfcheck formula 1\nc processes 1\nc rounds 0\nc points 1\nc executions 1\nc values 7\nc variable 1 * point + place of the value\np cnf 1 2\n1 0\n0\n"
unfolding digits
text_of_no_tuples = refl
