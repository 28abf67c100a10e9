-- The clauses of the executions of a protocol complex, by what the program keeps: the minimal
-- forbidden patterns of each input simplex.
use Rattle.std.specs.Prelude.{◌<◌, ℕ, List, [], map, flat_map, length, slice_index, All}
use Rattle.std.specs.List.{slice_index_or}
use Rattle.wf_model.specs.Limits.{most_points}
use Rattle.wf_model.specs.Lists.{below}
use Rattle.wf_model.specs.Task.{Task, values}
use Rattle.wf_complex.specs.Protocol.{Built}
use Rattle.wf_sat_text.specs.Clauses.Formula.{Clause, neg}
use Rattle.wf_sat_formula.specs.Patterns.{Pattern, minimal_patterns}
use Rattle.wf_sat_formula.specs.Encoding.{variable}

-- the points have not all values of the pattern
abbrev pub denied_at : List ℕ → List ℕ → Pattern → Clause
denied_at values points pattern = map (λ e. neg (variable values (slice_index points e.0) e.1)) pattern

-- the points of execution e, and the patterns of its input simplex
abbrev pub points_in : Built → ℕ → List ℕ
points_in b e = map (λ at. at.1) (slice_index_or b.scopes e [])

abbrev pub patterns_in : List (List Pattern) → Built → ℕ → List Pattern
patterns_in patterns b e = slice_index_or patterns (slice_index b.simplices e) []

abbrev pub clauses_at : List ℕ → List (List Pattern) → Built → ℕ → List Clause
clauses_at values patterns b e = map (denied_at values (points_in b e)) (patterns_in patterns b e)

-- those of all executions
abbrev pub clauses_on : List ℕ → List (List Pattern) → Built → List Clause
clauses_on values patterns b = flat_map (clauses_at values patterns b) (below (length b.scopes))

-- the patterns of each simplex of the task
abbrev pub patterns_of : Task → List (List Pattern)
patterns_of t = map (λ rule. minimal_patterns (length rule.input) (values t) rule.tuples) t.delta

-- each place of the pattern has a point
abbrev pub HasPoints : List ℕ → Pattern → Type 0
HasPoints points pattern = All (λ e. e.0 < length points) pattern

-- the points are few enough to number their variables
abbrev pub AreFew : List ℕ → Type 0
AreFew points = All (λ v. v < most_points) points

-- each execution has patterns, at its places
pub record IsCovered (patterns : List (List Pattern)) (b : Built) (e : ℕ) : Type 0 where
  pub simplex : slice_index b.simplices e < length patterns
  pub places : All (HasPoints (points_in b e)) (patterns_in patterns b e)
  pub few : AreFew (points_in b e)

abbrev pub AreCovered : List (List Pattern) → Built → Type 0
AreCovered patterns b = (e : ℕ) → e < length b.scopes → IsCovered patterns b e
