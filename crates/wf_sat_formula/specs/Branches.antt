-- The formula of a problem for the maps in a box alone, and the questions of
-- the branches that a problem is cut into.
use Rattle.std.specs.Prelude.{ℕ, ◌++◌, List, [], ◌∷◌, map, flat_map, filter, not, length, codes, decimal}
use Rattle.std.specs.List.{slice_index_or}
use Rattle.wf_model.specs.Lists.{below, has}
use Rattle.wf_model.specs.Task.{Task}
use Rattle.wf_model.specs.Problem.{Problem, problem_of}
use Rattle.wf_model.specs.Box.{Box, candidates}
use Rattle.wf_model.specs.Split.{split}
use Rattle.wf_model.specs.Report.{line}
use Rattle.wf_sat_text.specs.Clauses.Formula.{neg, Clause, Formula}
use Rattle.wf_sat_formula.specs.Encoding.{variable, formula_of}
use Rattle.wf_sat_formula.specs.Dimacs.{comments_with, formula_text}

-- the point has not the value
abbrev pub ruled_out : List ℕ → ℕ → ℕ → Clause
ruled_out values v a = neg (variable values v a) ∷ []

-- the values that a box has not at a point, ascending
abbrev pub missing : List ℕ → Box → ℕ → List ℕ
missing values box v = filter (λ a. not (has (candidates box v) a)) values

-- a clause for each such value, point by point
abbrev pub exclusions : Problem → Box → List Clause
exclusions p box = flat_map (λ v. map (ruled_out p.values v) (missing p.values box v)) (below p.points)

-- the formula of a problem, for the maps in a box alone
abbrev pub formula_in : Problem → Box → Formula
formula_in p box = record {
  variables = (formula_of p).variables;
  clauses = (formula_of p).clauses ++ exclusions p box;
}

-- the branches of a task's problem, and the question of one, by its number from 0
abbrev pub branches : Task → ℕ → List Box
branches t r = split (problem_of t r)

abbrev pub branch_at : Task → ℕ → ℕ → Box
branch_at t r i = slice_index_or (branches t r) i []

abbrev pub branch_question : Task → ℕ → ℕ → Formula
branch_question t r i = formula_in (problem_of t r) (branch_at t r i)

-- ---- text

-- which branch it is, and how many there are
abbrev pub branch_line : ℕ → ℕ → List ℕ
branch_line i n = codes "c branch " ++ (decimal i ++ line (codes " of") (n ∷ []))

-- the question of a box that is branch i of n
abbrev pub box_text : Task → ℕ → ℕ → ℕ → Box → List ℕ
box_text t r i n box = comments_with (branch_line i n) t r ++ formula_text (formula_in (problem_of t r) box)

-- the question of a branch, after comments
abbrev pub branch_text : Task → ℕ → ℕ → List ℕ
branch_text t r i = box_text t r i (length (branches t r)) (branch_at t r i)
