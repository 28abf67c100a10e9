-- The formula of a problem: a variable for each value at each point.
use Rattle.std.specs.Prelude.{ℕ, ◌+◌, ◌*◌, ◌==◌, nat_lt, List, ◌++◌, map, flat_map, filter, length, slice_index}
use Rattle.std.specs.List.{list_any, enumerate_from}
use Rattle.wf_model.specs.Lists.{below}
use Rattle.wf_model.specs.Task.{Task}
use Rattle.wf_model.specs.Problem.{Problem, Constraint, Participant, problem_of}
use Rattle.wf_sat_text.specs.Clauses.Formula.{pos, neg, Clause, Formula, Assignment}
use Rattle.wf_sat_formula.specs.Patterns.{Pattern, minimal_patterns}

-- how many of the values are smaller
abbrev pub rank_in : List ℕ → ℕ → ℕ
rank_in values a = length (filter (λ b. nat_lt b a) values)

-- the variable that says that point v has the value a: point by point, and by ascending value
abbrev pub variable : List ℕ → ℕ → ℕ → ℕ
variable values v a = v * length values + rank_in values a + 1

-- the point has one of the values
abbrev pub at_least_one : List ℕ → ℕ → Clause
at_least_one values v = map (λ a. pos (variable values v a)) values

-- the point at a place of an execution
abbrev pub point_at : List Participant → ℕ → ℕ
point_at scope place = slice_index (map (λ at. at.1) scope) place

-- the points at the places of the pattern have not all of its values
abbrev pub denied : List ℕ → List Participant → Pattern → Clause
denied values scope pattern = map (λ e. neg (variable values (point_at scope e.0) e.1)) pattern

-- the clauses of an execution: one for each minimal forbidden pattern
abbrev pub clauses_of : List ℕ → Constraint → List Clause
clauses_of values k = map (denied values k.scope) (minimal_patterns (length k.scope) values k.tuples)

-- first the clauses of the points, then those of the executions
abbrev pub formula_of : Problem → Formula
formula_of p = record {
  variables = p.points * length p.values;
  clauses = map (at_least_one p.values) (below p.points) ++ flat_map (clauses_of p.values) p.constraints;
}

-- the formula of a task and a number of rounds
abbrev pub question : Task → ℕ → Formula
question t r = formula_of (problem_of t r)

-- ---- between models and maps

-- the least value whose variable is true at a point
abbrev pub least_true : List ℕ → Assignment → ℕ → ℕ
least_true values a v = slice_index (filter (λ x. a (variable values v x)) values) 0

-- the list of values that a model gives
abbrev pub map_in : Problem → Assignment → List ℕ
map_in p a = map (least_true p.values a) (below p.points)

-- the assignment in which the variables of these values at the points are true, and no others
abbrev pub stating : List ℕ → List ℕ → Assignment
stating values m = λ n. list_any (λ at. variable values at.0 at.1 == n) (enumerate_from 0 m)
