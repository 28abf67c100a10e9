-- A constraint problem: the points have numbers, and each execution allows
-- some tuples at its points.
use Rattle.std.specs.Prelude.{◌≡◌, ◌<◌, ℕ, suc, true, List, [], ◌∷◌, map, length, All, Contains, slice_index, if◌then◌else◌}
use Rattle.std.specs.List.{slice_index_or}
use Rattle.wf_model.specs.Lists.{IsBelowOrSame}
use Rattle.wf_model.specs.Simplex.{is_ascending}
use Rattle.wf_model.specs.Task.{Task, Tuple, values}
use Rattle.wf_model.specs.View.{View, same_view, process_of}
use Rattle.wf_model.specs.Execution.{Execution, executions, last_views}
use Rattle.wf_model.specs.Points.{points, class}

-- a process that takes part in an execution, and its point there
abbrev pub Participant : Type 0
Participant = ℕ × ℕ

-- an execution: its participants by ascending process, and the tuples that
-- are allowed at their points
pub record Constraint : Type 0 where
  pub scope : List Participant
  pub tuples : List Tuple

pub record Problem : Type 0 where
  pub points : ℕ
  pub values : List ℕ
  pub constraints : List Constraint

-- the constraint of an execution, by its number
abbrev pub no_constraint : Constraint
no_constraint = record { scope = []; tuples = [] }

abbrev pub constraint_at : Problem → ℕ → Constraint
constraint_at p e = slice_index_or p.constraints e no_constraint

-- the number of a view among the points: its place in the list
abbrev pub number_of : List View → View → ℕ
number_of [] v = 0
number_of (w ∷ ws) v = if same_view v w then 0 else suc (number_of ws v)

-- the function on the views whose value at a view is the one at its number among the points
abbrev pub map_by_number : Task → ℕ → List ℕ → View → ℕ
map_by_number t r m = λ v. slice_index m (number_of (points t r) v)

abbrev pub constraint_of : Task → List View → Execution → Constraint
constraint_of t ps e = record { scope = map (λ v. (process_of v, number_of ps (class t v))) (last_views e); tuples = e.rule.tuples }

-- the problem of a task and a number of rounds
abbrev pub problem_of : Task → ℕ → Problem
problem_of t r =
    let ps = points t r in
    record { points = length ps; values = values t; constraints = map (constraint_of t ps) (executions t r) }

-- the values of a map at the points of an execution
abbrev pub values_at : List ℕ → List Participant → List ℕ
values_at m scope = map (λ at. slice_index m at.1) scope

abbrev pub Satisfies : List ℕ → Constraint → Type 0
Satisfies m k = Contains k.tuples (values_at m k.scope)

-- a decision map, by the numbers of the points
pub record IsSolution (p : Problem) (m : List ℕ) : Type 0 where
  pub long : length m ≡ p.points
  pub satisfies : All (Satisfies m) p.constraints

pub record IsLeastSolution (p : Problem) (m : List ℕ) : Type 0 where
  pub solves : IsSolution p m
  pub least : (other : List ℕ) → IsSolution p other → IsBelowOrSame m other

-- the points of the executions are points of the problem
abbrev pub InRange : Problem → Type 0
InRange p = All (λ k. All (λ at. at.1 < p.points) k.scope) p.constraints

-- what the problem of a task has: ascending values, and executions with a place at least, whose
-- processes ascend and whose points are the problem's
pub record IsWellFormed (p : Problem) : Type 0 where
  pub in_range : InRange p
  pub has_places : All (λ k. 0 < length k.scope) p.constraints
  pub ascending_processes : All (λ k. is_ascending (map (λ at. at.0) k.scope) ≡ true) p.constraints
  pub ascending_values : is_ascending p.values ≡ true
