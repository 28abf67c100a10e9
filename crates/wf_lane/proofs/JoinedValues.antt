-- What is joined where, of the wanted values, those are left that no live row has.
use Rattle.std.proofs.Common.{◌≡◌, ℕ, ◌<◌, ◌^◌, List, map, filter, not, sym, ◌∙◌, ap}
use Rattle.std.specs.Prelude.{count_by, slice_index}
use Rattle.std.specs.List.{All}
use Rattle.wf_model.specs.Lists.{has}
use Rattle.wf_base.specs.Set.Parts.{part_values}
use Rattle.wf_lane.specs.Words.{Words, ors}
use Rattle.wf_lane.specs.Table.{AreOneHot}
use Rattle.wf_lane.specs.declared.column.Columns.{Columns}
use Rattle.wf_lane.specs.Rows.{AreCut, AreJoined, AreWanted, is_among, rows_in}
use Rattle.wf_lane.proofs.WordLemmas.{column0, column1, column2, column3}
use Rattle.wf_lane.proofs.BlockLemmas.{AreUnmet, HaveValues, among_first, among_second, among_third, among_fourth, tests_alike, whole_count, whole_mask}

-- at each place, what is left of the wanted values is what no live row has there
pub record AreAllUnmet (unmet wanted : List ℕ) (rows : List Words) : Type 0 where
  pub first : AreUnmet (slice_index unmet 0) wanted (slice_index wanted 0) (λ r. r.first) rows
  pub second : AreUnmet (slice_index unmet 1) wanted (slice_index wanted 1) (λ r. r.second) rows
  pub third : AreUnmet (slice_index unmet 2) wanted (slice_index wanted 2) (λ r. r.third) rows
  pub fourth : AreUnmet (slice_index unmet 3) wanted (slice_index wanted 3) (λ r. r.fourth) rows

-- the values of the first set without those of the second
abbrev pub IsMet : ℕ → ℕ → ℕ → Type 0
IsMet met wanted unmet = part_values met ≡ filter (λ v. not (has (part_values unmet) v)) (part_values wanted)

-- the same for four places
pub record AreMet (met wanted unmet : List ℕ) : Type 0 where
  pub first : IsMet (slice_index met 0) (slice_index wanted 0) (slice_index unmet 0)
  pub second : IsMet (slice_index met 1) (slice_index wanted 1) (slice_index unmet 1)
  pub third : IsMet (slice_index met 2) (slice_index wanted 2) (slice_index unmet 2)
  pub fourth : IsMet (slice_index met 3) (slice_index wanted 3) (slice_index unmet 3)

-- four sets that are words
pub record AreSmall (met : List ℕ) : Type 0 where
  pub first : slice_index met 0 < 2 ^ 64
  pub second : slice_index met 1 < 2 ^ 64
  pub third : slice_index met 2 < 2 ^ 64
  pub fourth : slice_index met 3 < 2 ^ 64

module _ (c : Columns) (cut : AreCut c) where
  abbrev x0 : List ℕ
  x0 = c.first.words.items

  abbrev x1 : List ℕ
  x1 = c.second.words.items

  abbrev x2 : List ℕ
  x2 = c.third.words.items

  abbrev x3 : List ℕ
  x3 = c.fourth.words.items

  -- the rows' words at each place
  pub firsts : map (λ (r : Words). r.first) (rows_in c) ≡ x0
  firsts = column0 x0 x1 x2 x3 cut.second_long cut.third_long cut.fourth_long

  pub seconds : map (λ (r : Words). r.second) (rows_in c) ≡ x1
  seconds = column1 x0 x1 x2 x3 cut.second_long cut.third_long cut.fourth_long

  pub thirds : map (λ (r : Words). r.third) (rows_in c) ≡ x2
  thirds = column2 x0 x1 x2 x3 cut.second_long cut.third_long cut.fourth_long

  pub fourths : map (λ (r : Words). r.fourth) (rows_in c) ≡ x3
  fourths = column3 x0 x1 x2 x3 cut.second_long cut.third_long cut.fourth_long

  have : HaveValues c (rows_in c)
  have = record { first = cut.first.whole ∙ ap ors (sym firsts); second = cut.second.whole ∙ ap ors (sym seconds); third = cut.third.whole ∙ ap ors (sym thirds); fourth = cut.fourth.whole ∙ ap ors (sym fourths) }

  pub joined_from : (sets wanted unmet met : List ℕ) (alive : ℕ) → All AreOneHot (rows_in c) → AreWanted c wanted sets → AreMet met wanted unmet → AreSmall met → AreAllUnmet unmet wanted (rows_in c) → alive ≡ count_by (is_among wanted) (rows_in c)
      → AreJoined sets (rows_in c) met alive
  joined_from sets wanted unmet met alive one_hot asked are fits left counted =
      let rows = rows_in c in
      let alike = tests_alike c wanted sets asked rows one_hot have in
      record {
        first = whole_mask sets wanted (λ r. r.first) (slice_index met 0) (slice_index wanted 0) (slice_index unmet 0) rows (λ r h. h.first) (among_first wanted) one_hot alike fits.first are.first left.first;
        second = whole_mask sets wanted (λ r. r.second) (slice_index met 1) (slice_index wanted 1) (slice_index unmet 1) rows (λ r h. h.second) (among_second wanted) one_hot alike fits.second are.second left.second;
        third = whole_mask sets wanted (λ r. r.third) (slice_index met 2) (slice_index wanted 2) (slice_index unmet 2) rows (λ r h. h.third) (among_third wanted) one_hot alike fits.third are.third left.third;
        fourth = whole_mask sets wanted (λ r. r.fourth) (slice_index met 3) (slice_index wanted 3) (slice_index unmet 3) rows (λ r h. h.fourth) (among_fourth wanted) one_hot alike fits.fourth are.fourth left.fourth;
        alive = counted ∙ whole_count sets wanted rows alike;
      }
