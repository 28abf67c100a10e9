-- Names that stand for values where these are taken apart.
use Rattle.std.specs.Prelude.{◌≡◌, ◌<◌, nat_lt, ℕ, Bool, List, [], length, map, slice_index, slice_index_or}
use Rattle.std.specs.List.{list_any}
use Rattle.wf_model.specs.Simplex.{Simplex}
use Rattle.wf_model.specs.Task.{Tuple}
use Rattle.wf_tree_model.specs.Splits.{Splitting, by_stars, value_of_part, with_names}
use Rattle.wf_tree_model.specs.Tuples.{value_at}
use Rattle.wf_tree_refine.specs.Keys.{row_at}

-- the largest name, and the least that is above all values of tuples at most
abbrev pub most_name : ℕ
most_name = 255

abbrev pub first_new : ℕ
first_new = 256

-- the values of a simplex with these tuples taken apart, where new names begin with this one
abbrev pub splitting : Simplex → List Tuple → ℕ → Splitting
splitting s rows new = by_stars (record { input = s; tuples = rows }) new

-- whether the tuple has a name that is too large
abbrev pub has_large_name : Splitting → Tuple → Bool
has_large_name s tuple = list_any (λ name. nat_lt most_name name) (with_names s tuple)

-- ---- how names are found

-- the row of the values at a place of each column
abbrev pub row_of : List (List ℕ) → ℕ → Tuple
row_of columns number = map (λ column. slice_index column number) columns

-- each tuple has the number of a part with its value at the place, and the numbers are met in order
pub record AreNumbered (place : ℕ) (rows : List Tuple) (numbers : List ℕ) (parts : List (List Tuple)) : Type 0 where
  pub known : (i : ℕ) → i < length rows → slice_index numbers i < length parts
  pub value : (i : ℕ) → i < length rows → value_of_part place (slice_index_or parts (slice_index numbers i) [])
      ≡ value_at (row_at rows i) place
  pub met : (i v : ℕ) → i < length rows → v < slice_index numbers i → (j : ℕ) × (j < i) × (slice_index numbers j ≡ v)
  pub all : (k : ℕ) → k < length parts → (i : ℕ) × (i < length rows) × (slice_index numbers i ≡ k)

-- a number has a name that is too large
abbrev pub HasLargeName : List ℕ → List ℕ → Type 0
HasLargeName names numbers = (i : ℕ) × (i < length numbers) × (most_name < slice_index names (slice_index numbers i))
