-- What processes may decide in place of values, as a table of sets: a set for each process and each
-- value.
use Rattle.std.specs.Prelude.{◌≡◌, ◌<◌, ◌==◌, ◌+◌, ◌*◌, ℕ, List, [], ◌∷◌, length, slice_index_or, if◌then◌else◌}
use Rattle.wf_model.specs.Task.{Tuple}
use Rattle.wf_base.specs.Set.Sets.{values_in}
use Rattle.wf_tree_model.specs.Tuples.{value_at}

-- sets of four processes
abbrev pub sets_listed : ℕ
sets_listed = 1024

abbrev pub chosen_by : List (List ℕ) → ℕ → ℕ → List ℕ
chosen_by sets process value = values_in (slice_index_or sets (process * 256 + value) [])

-- the sets have these choices for the values below a limit
pub record AreChoices (choices : ℕ → ℕ → List ℕ) (limit : ℕ) (sets : List (List ℕ)) : Type 0 where
  pub count : length sets ≡ sets_listed
  pub each : (process value : ℕ) → process < 4 → value < limit → chosen_by sets process value ≡ choices process value

-- what tuples have at a place, of which those beside them have this value there
abbrev pub names_beside : ℕ → ℕ → List Tuple → List Tuple → List ℕ
names_beside place value [] named = []
names_beside place value (row ∷ rows) [] = []
names_beside place value (row ∷ rows) (name ∷ named) =
    if value_at row place == value then value_at name place ∷ names_beside place value rows named else names_beside place value rows named
