-- A decision map after a round more, from one before it.
use Rattle.std.specs.Prelude.{◌≡◌, ℕ, zero, suc, ◌-◌, ◌==◌, List, map, slice_index, if◌then◌else◌}
use Rattle.wf_model.specs.Task.{Task}
use Rattle.wf_model.specs.View.{View, base, seen, Views, no_views, view, process_of}
use Rattle.wf_model.specs.Points.{class, points}
use Rattle.wf_model.specs.DecisionMap.{listed}
use Rattle.wf_model.specs.Problem.{number_of}

-- the first of the views that is the process's own; base p 0 where none is
abbrev pub own_among : ℕ → Views → View
own_among p no_views = base p 0
own_among p (view v vs) = if process_of v == p then v else own_among p vs

-- a process's own view of the round before; an input has none before it and stays
abbrev pub own_before : View → View
own_before (base p x) = base p x
own_before (seen p vs) = own_among p vs

-- the point of the own view of the round before: in a symmetric task it has its ranks anew, as
-- fewer processes may occur in it
abbrev pub point_before : Task → View → View
point_before t v = class t (own_before v)

-- what the map decides at the own view of the round before
abbrev pub lifted : Task → (View → ℕ) → View → ℕ
lifted t m = λ v. m (point_before t v)

-- the map lifted by k rounds, one after another
abbrev pub lifted_by : Task → ℕ → (View → ℕ) → View → ℕ
lifted_by t zero m = m
lifted_by t (suc k) m = lifted_by t k (lifted t m)

-- whatever map has the one list of values over the points after r rounds, the lifted map has the
-- other over those after more
abbrev pub AreLifted : Task → ℕ → ℕ → List ℕ → List ℕ → Type 0
AreLifted t r more values after =
    (m : View → ℕ) → listed t r m ≡ values → listed t more (lifted_by t (more - r) m) ≡ after

-- for each point after r + 1 rounds the number, among those after r rounds, of the point before
abbrev pub numbers_before : Task → ℕ → List ℕ
numbers_before t r = map (λ v. number_of (points t r) (point_before t v)) (points t (suc r))

-- the values over the points after r + 1 rounds, from those over the points after r rounds
abbrev pub lifted_list : Task → ℕ → List ℕ → List ℕ
lifted_list t r values = map (slice_index values) (numbers_before t r)
