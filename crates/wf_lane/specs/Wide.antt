-- Rows with some value of 64 or more, and what is found as they are gone through.
use Rattle.std.specs.Prelude.{◌≡◌, ℕ, ◌<◌, ◌≤◌, ◌^◌, ◌&&◌, ◌||◌, not, Bool, List, [], length, slice_index, slice_index_or, nat_lt}
use Rattle.std.specs.List.{All, list_any}
use Rattle.wf_model.specs.Lists.{has}
use Rattle.wf_model.specs.Task.{Tuple}
use Rattle.wf_model.specs.Box.{has_at, is_alive}
use Rattle.wf_base.specs.Set.Parts.{part_limit}
use Rattle.wf_base.specs.Set.Sets.{values_in}
use Rattle.wf_lane.specs.Table.{sets_of}

-- the value is one of those that a part may have
abbrev pub is_below : ℕ → Bool
is_below v = nat_lt v part_limit

-- the row has no value at the place, or one of these
abbrev pub is_met_at : Tuple → ℕ → List ℕ → Bool
is_met_at row place values = not (nat_lt place (length row)) || has values (slice_index row place)

-- each value of the row is in the set of its place
abbrev pub lives : List (List ℕ) → Tuple → Bool
lives sets row = is_alive (sets_of (length row) sets) row

-- the sets have at each place what they had, and the value that the row has there, if it is alive
abbrev pub HaveMore : List (List ℕ) → Tuple → Bool → List (List ℕ) → Type 0
HaveMore sets row alive more = (place v : ℕ) →
    has (values_in (slice_index_or more place [])) v ≡ (has (values_in (slice_index_or sets place [])) v || (has_at row place v && alive))

-- the masks have at each place the values that some row that is alive has there
abbrev pub AreSupported : List (List ℕ) → List Tuple → List (List ℕ) → Type 0
AreSupported masks rows sets = (place v : ℕ) →
    has (values_in (slice_index_or masks place [])) v ≡ list_any (λ row. has_at row place v && lives sets row) rows

-- what a table of such rows keeps
pub record AreKept (width : ℕ) (rows : List Tuple) : Type 0 where
  pub some : 1 ≤ width
  pub narrow : width ≤ 4
  pub few : length rows < 2 ^ 32
  pub long : All (λ row. length row ≡ width) rows
