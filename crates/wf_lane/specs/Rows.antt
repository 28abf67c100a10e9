-- Sets of rows as words, a bit a row, and the columns that keep them.
use Rattle.std.specs.Prelude.{◌≡◌, ℕ, ◌+◌, ◌*◌, ◌<◌, ◌≤◌, ◌==◌, ◌&&◌, Bool, true, not, List, [], map, filter, length, slice_index, bit_and, count_by}
use Rattle.std.specs.List.{range_with_len}
use Rattle.std.specs.Simd.Lanes.{chunk, mask_l, zip2}
use Rattle.wf_model.specs.Lists.{has}
use Rattle.wf_model.specs.Task.{Tuple}
use Rattle.wf_base.specs.Set.Parts.{part_limit, part_values}
use Rattle.wf_lane.specs.Words.{Words, is_live, joined_words, ors, rows_of}
use Rattle.wf_lane.specs.Table.{IsKept, Table, table_of, value_of, word_at}
use Rattle.wf_lane.specs.declared.column.Column.{Column}
use Rattle.wf_lane.specs.declared.column.Columns.{Columns}
use Rattle.wf_lane.specs.declared.column.Places.{Places}

-- ---- sets of rows

-- a block has so many rows
abbrev pub block_rows : ℕ
block_rows = 512

-- and a set of its rows so many words
abbrev pub block_words : ℕ
block_words = 8

-- the rows of one word
abbrev pub word_rows : ℕ
word_rows = 64

-- fewer than 2 ^ 32 rows take at most so many blocks
abbrev pub block_limit : ℕ
block_limit = 8388608

-- the rows that pass a test, of the 64 from start on
abbrev pub row_set : {X : Type 0} → (X → Bool) → List X → ℕ → ℕ
row_set p rows start = mask_l (map p (chunk start 64 rows))

-- the rows that pass a test, in so many words, from the word of this number on
unfoldable pub row_sets : {X : Type 0} → (X → Bool) → List X → ℕ → ℕ → List ℕ
row_sets p rows word n = map (λ k. row_set p rows (64 * k)) (range_with_len word n)

-- ---- tests of rows

-- the word stands for the value
abbrev pub is_value : ℕ → ℕ → Bool
is_value v word = value_of word == v

-- the word stands for one of the values
abbrev pub is_one_of : ℕ → ℕ → Bool
is_one_of values word = has (part_values values) (value_of word)

-- the value of each word of the row is in the set of its place
abbrev pub is_among : List ℕ → Words → Bool
is_among sets r =
    is_one_of (slice_index sets 0) r.first && is_one_of (slice_index sets 1) r.second && is_one_of (slice_index sets 2) r.third
    && is_one_of (slice_index sets 3) r.fourth

-- one of these rows of a block has the value
abbrev pub is_met : List ℕ → List ℕ → ℕ → ℕ → Bool
is_met live words start v = not (ors (zip2 bit_and live (row_sets (is_value v) words start block_words)) == 0)

-- one of these rows, of the first 64, has the value
abbrev pub is_met_early : ℕ → List ℕ → ℕ → Bool
is_met_early live words v = not (bit_and live (row_set (is_value v) words 0) == 0)

-- ---- columns

-- rows that are cut into blocks have, for each value that occurs, the set of its rows at its start
pub record IsCut (c : Column) : Type 0 where
  pub few : c.blocks ≤ block_limit
  pub whole : c.values ≡ ors c.words.items
  pub starts : 0 < c.blocks → length c.starts.items ≡ 64
  pub within : (v : ℕ) → has (part_values c.values) v ≡ true → slice_index c.starts.items v + block_words * c.blocks ≤ length c.sets.items
  pub marked : (v : ℕ) → has (part_values c.values) v ≡ true
      → chunk (slice_index c.starts.items v) (block_words * c.blocks) c.sets.items
      ≡ row_sets (is_value v) c.words.items 0 (block_words * c.blocks)

-- no row was cut yet
pub record IsWhole (c : Column) : Type 0 where
  pub none : c.blocks ≡ 0
  pub whole : c.values ≡ ors c.words.items
  pub empty : c.starts.items ≡ []

-- of the values below this one, each that occurs has so many words from its start on
pub record AreApart (next values words : ℕ) (starts : List ℕ) (end : ℕ) : Type 0 where
  pub count : length starts ≡ next
  pub few : end ≤ next * words
  pub within : (v : ℕ) → v < next → has (part_values values) v ≡ true → slice_index starts v + words ≤ end
  pub apart : (u v : ℕ) → u < v → v < next → has (part_values values) u ≡ true → slice_index starts u + words ≤ slice_index starts v

-- each value of a word that occurs has its words apart from those of the others
abbrev pub ArePlaces : ℕ → Places → Type 0
ArePlaces values p = AreApart part_limit values p.words p.starts.items p.end

-- each of these sets has the rows with its value
abbrev pub AreMarked : ℕ → Places → List ℕ → List ℕ → Type 0
AreMarked values p rows sets =
    (v k : ℕ) → has (part_values values) v ≡ true → k < p.words → slice_index sets (slice_index p.starts.items v + k)
    ≡ row_set (is_value v) rows (64 * k)

-- the values all occur in the column
abbrev pub OccurIn : Column → ℕ → Type 0
OccurIn c values = (v : ℕ) → has (part_values values) v ≡ true → has (part_values c.values) v ≡ true

-- of the candidates, those that occur in the column
abbrev pub IsWanted : Column → ℕ → ℕ → Type 0
IsWanted c wanted candidates = part_values wanted ≡ filter (has (part_values c.values)) (part_values candidates)

-- these eight words are those of a block
abbrev pub IsInBlocks : Column → ℕ → Type 0
IsInBlocks c start = start + block_words ≤ block_words * c.blocks

-- of a set of values, those are left that are not met
abbrev pub AreLeft : ℕ → ℕ → (ℕ → Bool) → Type 0
AreLeft left values met = (v : ℕ) → has (part_values left) v ≡ (has (part_values values) v && not (met v))

-- ---- four columns

-- the rows that stand in the columns
abbrev pub rows_in : Columns → List Words
rows_in c = rows_of c.first.words.items c.second.words.items c.third.words.items c.fourth.words.items

-- the table of the columns
abbrev pub table_in : ℕ → Columns → Table
table_in width c = table_of width c.first.words.items c.second.words.items c.third.words.items c.fourth.words.items

-- as many rows in each, and cut into as many blocks
pub record AreCut (c : Columns) : Type 0 where
  pub first : IsCut c.first
  pub second : IsCut c.second
  pub third : IsCut c.third
  pub fourth : IsCut c.fourth
  pub second_long : length c.second.words.items ≡ length c.first.words.items
  pub third_long : length c.third.words.items ≡ length c.first.words.items
  pub fourth_long : length c.fourth.words.items ≡ length c.first.words.items
  pub second_blocks : c.second.blocks ≡ c.first.blocks
  pub third_blocks : c.third.blocks ≡ c.first.blocks
  pub fourth_blocks : c.fourth.blocks ≡ c.first.blocks

-- the values of each place occur in its column
pub record OccurInAll (c : Columns) (sets : List ℕ) : Type 0 where
  pub first : OccurIn c.first (slice_index sets 0)
  pub second : OccurIn c.second (slice_index sets 1)
  pub third : OccurIn c.third (slice_index sets 2)
  pub fourth : OccurIn c.fourth (slice_index sets 3)

-- of the candidates of each place, those that occur there
pub record AreWanted (c : Columns) (wanted candidates : List ℕ) : Type 0 where
  pub first : IsWanted c.first (slice_index wanted 0) (slice_index candidates 0)
  pub second : IsWanted c.second (slice_index wanted 1) (slice_index candidates 1)
  pub third : IsWanted c.third (slice_index wanted 2) (slice_index candidates 2)
  pub fourth : IsWanted c.fourth (slice_index wanted 3) (slice_index candidates 3)

-- of the values of each place, those are left that no live row of the block has there
pub record AreAllLeft (c : Columns) (live : List ℕ) (start : ℕ) (left sets : List ℕ) : Type 0 where
  pub first : AreLeft (slice_index left 0) (slice_index sets 0) (is_met live c.first.words.items start)
  pub second : AreLeft (slice_index left 1) (slice_index sets 1) (is_met live c.second.words.items start)
  pub third : AreLeft (slice_index left 2) (slice_index sets 2) (is_met live c.third.words.items start)
  pub fourth : AreLeft (slice_index left 3) (slice_index sets 3) (is_met live c.fourth.words.items start)

-- of the values of each place, those are left that no live row of the first 64 has there
pub record AreFewLeft (c : Columns) (live : ℕ) (left sets : List ℕ) : Type 0 where
  pub first : AreLeft (slice_index left 0) (slice_index sets 0) (is_met_early live c.first.words.items)
  pub second : AreLeft (slice_index left 1) (slice_index sets 1) (is_met_early live c.second.words.items)
  pub third : AreLeft (slice_index left 2) (slice_index sets 2) (is_met_early live c.third.words.items)
  pub fourth : AreLeft (slice_index left 3) (slice_index sets 3) (is_met_early live c.fourth.words.items)

-- the words of the live rows joined place by place, and how many rows are alive
pub record AreJoined (sets : List ℕ) (rows : List Words) (masks : List ℕ) (count : ℕ) : Type 0 where
  pub first : slice_index masks 0 ≡ joined_words sets (λ r. r.first) rows
  pub second : slice_index masks 1 ≡ joined_words sets (λ r. r.second) rows
  pub third : slice_index masks 2 ≡ joined_words sets (λ r. r.third) rows
  pub fourth : slice_index masks 3 ≡ joined_words sets (λ r. r.fourth) rows
  pub alive : count ≡ count_by (is_live sets) rows

-- what each table keeps: words of one bit, and where the rows are cut, all of them are
pub record IsStored (width : ℕ) (c : Columns) : Type 0 where
  pub kept : IsKept width c.first.words.items c.second.words.items c.third.words.items c.fourth.words.items
  pub cut : AreCut c
  pub all : 0 < c.first.blocks → length c.first.words.items ≤ block_rows * c.first.blocks

-- the columns of these rows
pub record HasColumns (rows : List Tuple) (c : Columns) : Type 0 where
  pub first : c.first.words.items ≡ map (word_at 0) rows
  pub second : c.second.words.items ≡ map (word_at 1) rows
  pub third : c.third.words.items ≡ map (word_at 2) rows
  pub fourth : c.fourth.words.items ≡ map (word_at 3) rows
  pub cut : AreCut c
  pub all : 0 < c.first.blocks → length rows ≤ block_rows * c.first.blocks
