-- The least values of a box.
use Rattle.std.specs.Prelude.{ℕ, List, map, slice_index}
use Rattle.wf_model.specs.Box.{Box}

-- the least candidate of each point
abbrev pub least_values : Box → List ℕ
least_values box = map (λ set. slice_index set 0) box
