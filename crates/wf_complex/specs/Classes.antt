-- The classes of views.
use Rattle.std.specs.Prelude.{◌≡◌, ◌<◌, ℕ, ◌+◌, ◌*◌, Bool, List, length, map, All, if◌then◌else◌}
use Rattle.wf_model.specs.Limits.{most_processes, most_rounds}
use Rattle.wf_model.specs.Lists.{distinct}
use Rattle.wf_model.specs.View.{View, same_view, normal}
use Rattle.wf_complex.specs.Rounds.{views_at}
use Rattle.wf_complex.specs.Numbering.{AreNumbered}

-- the class of a view, in a symmetric task or one that is not
abbrev pub class_by : Bool → View → View
class_by symmetric v = if symmetric then normal v else v

-- the classes of the views of these numbers
abbrev pub classes_at : Bool → List View → List ℕ → List View
classes_at symmetric table ids = map (class_by symmetric) (views_at table ids)

-- how many views are inside a last view at most: of each round one of each
-- process, and those of the inputs
abbrev pub most_within : ℕ
most_within = most_processes + most_rounds * most_processes

-- these are the points of places at which these classes stand: for each point the number of its
-- class in a table that has each view once, and its first place, and for each place its point
pub record ArePoints (table vs : List View) (classes firsts numbers : List ℕ) : Type 0 where
  pub ids : List ℕ
  pub named : views_at table ids ≡ vs
  pub within : All (λ k. k < length table) ids
  pub once : distinct same_view table ≡ table
  pub numbered : AreNumbered ids classes firsts numbers
