-- Steps of the loops over values where a set is one word, and what is left after them.
use Rattle.std.proofs.Common.{◌≡◌, ℕ, ◌+◌, ◌≤◌, List, [], ◌∷◌, length, drop, map, Bool, false, not, ◌&&◌, sym, ◌∙◌, ap, arith}
use Rattle.std.specs.Prelude.{bit_and, bit_or, count_ones, count_by, slice_index, ◌||◌, ◌==◌}
use Rattle.std.specs.Int.Bits.{or_zero_r}
use Rattle.std.specs.List.{list_any}
use Rattle.std.specs.Simd.Lanes.{chunk, mask_l}
use Rattle.std.proofs.lemmas.List.{take_all, get_or-take, get_or-drop}
use Rattle.std.proofs.lemmas.Simd.{ones-mask_l}
use Rattle.wf_model.specs.Lists.{has}
use Rattle.wf_model.proofs.Lemmas.{or_assoc, equal_turned}
use Rattle.wf_base.specs.Set.Parts.{part_values}
use Rattle.wf_lane.specs.Words.{Words}
use Rattle.wf_lane.specs.Rows.{AreLeft, is_among, is_met_early, is_one_of, is_value, row_set, row_sets}
use Rattle.wf_lane.specs.Table.{value_of}
use Rattle.wf_lane.proofs.WordLemmas.{map_cong}
use Rattle.wf_lane.proofs.RowLemmas.{any-mask, mask_of-both, mask_of-either, mask_of-none, rows_from, set_of-map}
use Rattle.wf_lane.proofs.BlockLemmas.{AreUnmet, has_value}

-- the first word of a set
pub first_word : {X : Type 0} (p : X → Bool) (xs : List X) (sets : List ℕ) (s n : ℕ) → 8 ≤ n → chunk s n sets ≡ row_sets p xs 0 n → slice_index sets s ≡ row_set p xs 0
unfolding row_sets
first_word p xs sets s n room e =
    sym
    (get_or-take 8 (drop (s + 0) sets) 0 0 (omega arith)
    ∙ get_or-drop (s + 0) sets 0 0
    ∙ ap (slice_index sets) (let e : s + 0 + 0 ≡ s = omega arith in e))
    ∙ ap (λ ws. slice_index ws 0) (rows_from p xs sets s n 0 room e)

-- ---- joining words

abbrev pub early : ℕ → List ℕ → ℕ
early values words = row_set (is_one_of values) words 0

pub early_end : (joined left : ℕ) (words : List ℕ) → part_values left ≡ [] → bit_or joined (early left words) ≡ joined
early_end joined left words none =
    ap (bit_or joined) (ap mask_l (map_cong (is_one_of left) (λ w. false) (λ w. ap (λ vs. has vs (value_of w)) none) (chunk 0 64 words)) ∙ mask_of-none (chunk 0 64 words))
    ∙ or_zero_r joined

pub early_step : (joined left t others : ℕ) (words : List ℕ) → part_values left ≡ t ∷ part_values others → bit_or (bit_or joined (row_set (is_value t) words 0)) (early others words) ≡ bit_or joined (early left words)
early_step joined left t others words split =
    or_assoc joined (row_set (is_value t) words 0) (early others words)
    ∙ ap (bit_or joined)
    (mask_of-either (is_value t) (is_one_of others) (chunk 0 64 words)
    ∙ ap mask_l (map_cong (λ w. is_value t w || is_one_of others w) (is_one_of left)
    (λ w. ap (λ b. b || is_one_of others w) (equal_turned (value_of w) t) ∙ sym (ap (λ vs. has vs (value_of w)) split)) (chunk 0 64 words)))

-- ---- the rows of four columns

pub live_words : (s : List ℕ) (a b c d : List ℕ) (rows : List Words) → map (λ (r : Words). r.first) rows ≡ a → map (λ (r : Words). r.second) rows ≡ b → map (λ (r : Words). r.third) rows ≡ c → map (λ (r : Words). r.fourth) rows ≡ d →
    bit_and (bit_and (bit_and (early (slice_index s 0) a) (early (slice_index s 1) b)) (early (slice_index s 2) c)) (early (slice_index s 3) d) ≡ row_set (is_among s) rows 0
live_words s a b c d rows ea eb ec ed =
    let p0 = λ (r : Words). is_one_of (slice_index s 0) r.first in
    let p1 = λ (r : Words). is_one_of (slice_index s 1) r.second in
    let p2 = λ (r : Words). is_one_of (slice_index s 2) r.third in
    let p3 = λ (r : Words). is_one_of (slice_index s 3) r.fourth in
    let here = chunk 0 64 rows in
    ap (λ n. bit_and (bit_and (bit_and n (early (slice_index s 1) b)) (early (slice_index s 2) c)) (early (slice_index s 3) d)) (set_of-map (λ (r : Words). r.first) (is_one_of (slice_index s 0)) rows a 0 ea)
    ∙ ap (λ n. bit_and (bit_and (bit_and (row_set p0 rows 0) n) (early (slice_index s 2) c)) (early (slice_index s 3) d)) (set_of-map (λ (r : Words). r.second) (is_one_of (slice_index s 1)) rows b 0 eb)
    ∙ ap (λ n. bit_and (bit_and n (early (slice_index s 2) c)) (early (slice_index s 3) d)) (mask_of-both p0 p1 here)
    ∙ ap (λ n. bit_and (bit_and (row_set (λ r. p0 r && p1 r) rows 0) n) (early (slice_index s 3) d)) (set_of-map (λ (r : Words). r.third) (is_one_of (slice_index s 2)) rows c 0 ec)
    ∙ ap (λ n. bit_and n (early (slice_index s 3) d)) (mask_of-both (λ r. p0 r && p1 r) p2 here)
    ∙ ap (bit_and (row_set (λ r. p0 r && p1 r && p2 r) rows 0)) (set_of-map (λ (r : Words). r.fourth) (is_one_of (slice_index s 3)) rows d 0 ed)
    ∙ mask_of-both (λ r. p0 r && p1 r && p2 r) p3 here

-- the values left where all rows are early
module _ (s : List ℕ) (rows : List Words) (live : ℕ) (few : length rows ≤ 64) (lanes : live ≡ row_set (is_among s) rows 0) where
  pub early_unmet : (w : Words → ℕ) (words : List ℕ) (unmet wanted : ℕ) → map w rows ≡ words → AreLeft unmet wanted (is_met_early live words) → AreUnmet unmet s wanted w rows
  early_unmet w words unmet wanted col left v =
      left v
      ∙ ap (λ b. has (part_values wanted) v && not b)
      (ap (λ n. not (bit_and n (row_set (is_value v) words 0) == 0)) lanes
      ∙ ap (λ n. not (bit_and (row_set (is_among s) rows 0) n == 0)) (set_of-map w (is_value v) rows words 0 col)
      ∙ ap (λ n. not (n == 0)) (mask_of-both (is_among s) (λ r. is_value v (w r)) (chunk 0 64 rows))
      ∙ any-mask (has_value s w v) (chunk 0 64 rows)
      ∙ ap (list_any (has_value s w v)) (take_all 64 rows few))

  pub early_count : count_ones live ≡ count_by (is_among s) rows
  early_count = ap count_ones lanes ∙ ones-mask_l (is_among s) (chunk 0 64 rows) ∙ ap (count_by (is_among s)) (take_all 64 rows few)
