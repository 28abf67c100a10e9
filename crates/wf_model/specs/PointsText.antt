-- The points of a protocol complex in words, for people, with what a map decides at each.
use Rattle.std.specs.Prelude.{ℕ, Bool, List, [], ◌++◌, flat_map, Option, Some, None, slice_get, codes, decimal, if◌then◌else◌}
use Rattle.std.specs.List.{enumerate_from}
use Rattle.wf_model.specs.Task.{Task}
use Rattle.wf_model.specs.View.{View, base, seen, Views, no_views, view}
use Rattle.wf_model.specs.Points.{points}

-- a process by its number; where views are classes, by its rank among the processes of the view
abbrev pub process_text : Bool → ℕ → List ℕ
process_text ranks p = (if ranks then codes "#" else codes "p") ++ decimal p

-- a process with its input, or with the views that it saw, by ascending process
abbrev mutual
  pub view_text : Bool → View → List ℕ
  view_text ranks (base p x) = process_text ranks p ++ (codes "=" ++ decimal x)
  view_text ranks (seen p vs) = process_text ranks p ++ (codes " saw {" ++ (views_text ranks vs ++ codes "}"))

  pub views_text : Bool → Views → List ℕ
  views_text ranks no_views = []
  views_text ranks (view v vs) = view_text ranks v ++ more_text ranks vs

  pub more_text : Bool → Views → List ℕ
  more_text ranks no_views = []
  more_text ranks (view v vs) = codes ", " ++ (view_text ranks v ++ more_text ranks vs)

abbrev pub decision_text : Option ℕ → List ℕ
decision_text None = []
decision_text (Some a) = codes " decides " ++ decimal a

-- a point's number, its view, and the value that the map has there, if any
abbrev pub point_text : Bool → List ℕ → ℕ × View → List ℕ
point_text ranks map at = decimal at.0 ++ (codes " " ++ (view_text ranks at.1 ++ (decision_text (slice_get map at.0) ++ codes "\n")))

-- a line for each point, with the values of a map, or with none where there is no map
abbrev pub points_text : Task → ℕ → List ℕ → List ℕ
points_text t r map = flat_map (point_text t.symmetric map) (enumerate_from 0 (points t r))
