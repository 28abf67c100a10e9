-- Rows in blocks of 64, and the words of a block.
use Rattle.std.specs.Prelude.{◌≡◌, ℕ, ◌*◌, ◌<◌, ◌≤◌, ◌+◌, ◌/◌, ◌%◌, Bool, List, [], Vec, All, drop, get_or, length, take}
use Rattle.std.specs.List.{list_any}
use Rattle.wf_model.specs.Lists.{has}
use Rattle.wf_model.specs.Task.{Tuple}
use Rattle.wf_model.specs.Box.{has_at}
use Rattle.wf_base.specs.Set.Parts.{part_limit, part_values}

-- a block has so many rows, but for the last
abbrev pub block_rows : ℕ
block_rows = 64

-- the word of number 4 * v + p has the rows with the value v at the place p
abbrev pub IsBlock : List Tuple → List ℕ → Type 0
IsBlock rows words = (i r : ℕ) → has (part_values (get_or words i 0)) r ≡ has_at (get_or rows r []) (i % 4) (i / 4)

-- the words of one of these values at the place have the row
abbrev pub is_one_of : List ℕ → ℕ → List ℕ → ℕ → Bool
is_one_of words place values r = list_any (λ v. has (part_values (get_or words (4 * v + place) 0)) r) values

-- all values are below the width
abbrev pub AreNarrow : ℕ → List Tuple → Type 0
AreNarrow width rows = All (λ row. All (λ v. v < width) row) rows

abbrev pub AreOfSize : ℕ → List Tuple → Type 0
AreOfSize size rows = All (λ row. length row ≡ size) rows

-- a row of this size whose values have bits in a word
pub record IsPlain (size : ℕ) (row : Tuple) : Type 0 where
  pub sized : length row ≡ size
  pub narrow : All (λ v. v < part_limit) row

-- each block has the words of its rows
abbrev pub AreBlocks : {A : Type 0} → List Tuple → List (Vec ℕ A) → Type 0
AreBlocks {A} rows blocks =
    (k : ℕ) (b : Vec ℕ A) → k < length blocks → b ≡ get_or blocks k b → IsBlock (take 64 (drop (64 * k) rows)) b.items

-- the rows are plain, and stand in the blocks
pub record IsCut {A : Type 0} (size : ℕ) (rows : List Tuple) (blocks : List (Vec ℕ A)) : Type 0 where
  pub few : size ≤ 4
  pub plain : All (IsPlain size) rows
  pub words : AreBlocks rows blocks
  pub all : length rows ≤ 64 * length blocks
