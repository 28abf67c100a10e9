-- The points of a protocol complex: its views, or in a symmetric task their classes.
use Rattle.std.specs.Prelude.{ℕ, Bool, List, map, flat_map, length, if◌then◌else◌}
use Rattle.std.specs.List.{enumerate_from}
use Rattle.wf_model.specs.Lists.{distinct}
use Rattle.wf_model.specs.Task.{Task}
use Rattle.wf_model.specs.View.{View, same_view, process_of, normal}
use Rattle.wf_model.specs.Execution.{Execution, executions, last_views}

-- in a symmetric task two views are one point where they differ by the names of the processes alone
abbrev pub class : Task → View → View
class t v = if t.symmetric then normal v else v

-- the points of an execution: its last views, or in a symmetric task their classes, by ascending
-- process
abbrev pub execution_points : Task → Execution → List View
execution_points t e = map (class t) (last_views e)

-- in the order of first appearance, by execution and then by process
abbrev pub points : Task → ℕ → List View
points t r = distinct same_view (flat_map (execution_points t) (executions t r))

-- how many different last views there are, by process too
abbrev pub last_view_count : Task → ℕ → ℕ
last_view_count t r = length (distinct same_view (flat_map last_views (executions t r)))

-- a point, and an execution and a process that it belongs to
pub record Appearance : Type 0 where
  pub point : View
  pub execution : ℕ
  pub process : ℕ

abbrev pub same_point : Appearance → Appearance → Bool
same_point x y = same_view x.point y.point

-- each process of an execution with its point there
abbrev pub appearances_in : Task → ℕ × Execution → List Appearance
appearances_in t e = map (λ v. record { point = class t v; execution = e.0; process = process_of v }) (last_views e.1)

-- the first appearance of each point, point by point
abbrev pub first_appearances : Task → ℕ → List Appearance
first_appearances t r = distinct same_point (flat_map (appearances_in t) (enumerate_from 0 (executions t r)))
