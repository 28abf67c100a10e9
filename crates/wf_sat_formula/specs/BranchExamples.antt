-- Worked examples: the questions of branches, by computation.
use Rattle.std.specs.Prelude.{◌≡◌, [], ◌∷◌, length, codes, refl}
use Rattle.std.specs.Fmt.{digits}
use Rattle.wf_model.specs.Task.{Task}
use Rattle.wf_model.specs.Problem.{problem_of}
use Rattle.wf_model.specs.ExampleTasks.{path, consensus, alone, one}
use Rattle.wf_sat_text.specs.Clauses.Formula.{neg}
use Rattle.wf_sat_formula.specs.Branches.{branches, branch_at, branch_text, exclusions}

-- one process that may decide 0 or 1: a branch for each
abbrev free : Task
free = alone ((0 ∷ []) ∷ (1 ∷ []) ∷ []) (one 0 0 ∷ one 0 1 ∷ [])

pub free_has_two_branches : length (branches free 0) ≡ 2
free_has_two_branches = refl

pub text_of_the_first_branch : branch_text free 0 0 ≡ codes "c wfcheck formula 1\nc processes 1\nc rounds 0\nc points 1\nc executions 1\nc branch 0 of 2\nc values 0 1\nc variable 2 * point + place of the value\np cnf 2 2\n1 2 0\n-2 0\n"
unfolding digits
text_of_the_first_branch = refl

pub text_of_the_second_branch : branch_text free 0 1 ≡ codes "c wfcheck formula 1\nc processes 1\nc rounds 0\nc points 1\nc executions 1\nc branch 1 of 2\nc values 0 1\nc variable 2 * point + place of the value\np cnf 2 2\n1 2 0\n-1 0\n"
unfolding digits
text_of_the_second_branch = refl

-- the last branch of a path: the points have 0, 2, 2 and 1 alone
pub last_branch_of_a_path : branch_at (path 2) 1 2 ≡ (0 ∷ []) ∷ (2 ∷ []) ∷ (2 ∷ []) ∷ (1 ∷ []) ∷ []
last_branch_of_a_path = refl

pub what_it_rules_out : exclusions (problem_of (path 2) 1) (branch_at (path 2) 1 2)
    ≡ (neg 2 ∷ []) ∷ (neg 3 ∷ []) ∷ (neg 4 ∷ []) ∷ (neg 5 ∷ []) ∷ (neg 7 ∷ []) ∷ (neg 8 ∷ []) ∷ (neg 10 ∷ []) ∷ (neg 12 ∷ []) ∷ []
what_it_rules_out = refl

-- at a point with two values of three the third is ruled out, and at one with all three nothing
pub an_open_point : exclusions (record { points = 2; values = 0 ∷ 1 ∷ 2 ∷ []; constraints = [] }) ((0 ∷ 2 ∷ []) ∷ (0 ∷ 1 ∷ 2 ∷ []) ∷ []) ≡ (neg 2 ∷ []) ∷ []
an_open_point = refl

-- a problem has no branch, if closing empties a point
pub consensus_has_no_branch : length (branches consensus 1) ≡ 0
consensus_has_no_branch = refl
