-- How the sets of rows of a column are built.
use Rattle.std.proofs.Common.{◌≡◌, ℕ, zero, suc, ◌+◌, ◌*◌, ◌<◌, ◌≤◌, ◌/◌, ◌%◌, ◌^◌, List, [], ◌∷◌, ◌++◌, length, take, drop, map, get_or, Bool, true, false, cond, max, refl, sym, ◌∙◌, ap, arith, ◌⊎◌, ⊎_elim, inl, inr, w64}
use Rattle.std.specs.Prelude.{bit_or, slice_index, slice_set}
use Rattle.std.specs.Int.{bit_at, trailing_zeros}
use Rattle.std.specs.List.{All}
use Rattle.std.specs.Simd.Lanes.{chunk, mask_l}
use Rattle.std.proofs.Math.Nat.{mod-eq_of_lt}
use Rattle.std.proofs.Math.Pow.{pow-lt}
use Rattle.std.proofs.lemmas.Bool.{cases_lt, cases_eq, cases_order, eq-eqb, ne_eqb, or_left, or_right}
use Rattle.std.proofs.lemmas.Nat.Bits.{bit_at_or, bit_at-pow_same, bit_at-pow_other, same_from_bits}
use Rattle.std.proofs.lemmas.Simd.{bit_mask_l, get_or-chunk, length-chunk}
use Rattle.std.proofs.lemmas.List.{take_more, take_all, take-append-le, drop_all, drop-append-le, length-drop, length-map, length-take-le, length_push, map_push, get_or_append_left, get_or_push, get_or_past, get_or-set_same, get_or-set_other}
use Rattle.std.proofs.lemmas.List.FromFn.{fill_by_all}
use Rattle.std.proofs.lemmas.List.Elements.{All-head, All-tail}
use Rattle.std.specs.Int.Bits.{or_zero_r}
use Rattle.wf_model.specs.Lists.{has}
use Rattle.wf_base.specs.Set.Parts.{part_holds, part_values}
use Rattle.wf_base.proofs.OfSet.Lemmas.{has-part_values, has_large, part_holds-or}
use Rattle.wf_lane.specs.Words.{ors}
use Rattle.wf_lane.specs.Table.{IsOneHot, value_of}
use Rattle.wf_lane.specs.Rows.{AreMarked, ArePlaces, IsCut, IsWhole, block_limit, is_value, row_set, row_sets}
use Rattle.wf_lane.specs.declared.column.Column.{Column}
use Rattle.wf_lane.specs.declared.column.Places.{Places}
use Rattle.wf_lane.proofs.RowLemmas.{rows_zero}
use Rattle.wf_lane.proofs.Values.{value_small, word_holds}
use Rattle.wf_lane.proofs.OrLemmas.{ors-append}

pub ors_more : (xs : List ℕ) (i : ℕ) → i < length xs → ors (take (i + 1) xs) ≡ bit_or (ors (take i xs)) (get_or xs i 0)
ors_more xs i lt = ap ors (take_more xs i 0 lt) ∙ ors-append (take i xs) (get_or xs i 0 ∷ []) ∙ ap (bit_or (ors (take i xs))) (or_zero_r (get_or xs i 0))

-- ---- the value of a row occurs

one_hot_at : (words : List ℕ) (i : ℕ) → All IsOneHot words → i < length words → IsOneHot (get_or words i 0)
one_hot_at [] i h lt = absurd (omega arith)
one_hot_at (w ∷ words) zero h lt = All-head IsOneHot w words h
one_hot_at (w ∷ words) (suc i) h lt = one_hot_at words i (All-tail IsOneHot w words h) (omega arith)

in_all : (words : List ℕ) (i v : ℕ) → i < length words → part_holds (get_or words i 0) v ≡ true → part_holds (ors words) v ≡ true
in_all [] i v lt h = absurd (omega arith)
in_all (w ∷ words) zero v lt h = part_holds-or w (ors words) v ∙ or_left (part_holds w v) (part_holds (ors words) v) h
in_all (w ∷ words) (suc i) v lt h = part_holds-or w (ors words) v ∙ or_right (part_holds w v) (part_holds (ors words) v) (in_all words i v (omega arith) h)

pub value_is : (word : ℕ) → value_of word ≡ trailing_zeros w64 word
unfolding value_of
value_is word = refl

pub small_at : (words : List ℕ) (i : ℕ) → All IsOneHot words → i < length words → value_of (get_or words i 0) < 64
small_at words i hot lt = value_small (get_or words i 0) (one_hot_at words i hot lt)

pub occurs_at : (words : List ℕ) (i : ℕ) → All IsOneHot words → i < length words → has (part_values (ors words)) (value_of (get_or words i 0)) ≡ true
occurs_at words i hot lt =
    let w = get_or words i 0 in
    let one = one_hot_at words i hot lt in
    has-part_values (ors words) (value_of w) (value_small w one)
    ∙ in_all words i (value_of w) lt (word_holds w (value_of w) one ∙ eq-eqb (value_of w) (value_of w) refl)

-- ---- one row more

bit_set : (b : Bool) → max (cond b 1 0) 1 ≡ 1
bit_set true = refl
bit_set false = refl

bit_left : (b : Bool) → max (cond b 1 0) 0 ≡ cond b 1 0
bit_left true = refl
bit_left false = refl

module _ (bs : List Bool) (i : ℕ) where
  more_bit : (b : Bool) → get_or (bs ++ true ∷ []) i false ≡ b → bit_at (mask_l (bs ++ true ∷ [])) i ≡ cond b 1 0
  more_bit b e = bit_mask_l (bs ++ true ∷ []) i ∙ ap (λ t. cond t 1 0) e

  or_bit : (k : ℕ) → bit_at (2 ^ length bs) i ≡ k → bit_at (bit_or (mask_l bs) (2 ^ length bs)) i ≡ max (cond (get_or bs i false) 1 0) k
  or_bit k e = bit_at_or (mask_l bs) (2 ^ length bs) i ∙ ap (λ n. max n (bit_at (2 ^ length bs) i)) (bit_mask_l bs i) ∙ ap (max (cond (get_or bs i false) 1 0)) e

  bit_at_end : i ≡ length bs → bit_at (mask_l (bs ++ true ∷ [])) i ≡ bit_at (bit_or (mask_l bs) (2 ^ length bs)) i
  bit_at_end e = more_bit true (get_or_push bs true false i (sym e)) ∙ sym (or_bit 1 (ap (bit_at (2 ^ length bs)) e ∙ bit_at-pow_same (length bs)) ∙ bit_set (get_or bs i false))

  bit_before : i < length bs → bit_at (mask_l (bs ++ true ∷ [])) i ≡ bit_at (bit_or (mask_l bs) (2 ^ length bs)) i
  bit_before lt =
      more_bit (get_or bs i false) (get_or_append_left bs (true ∷ []) false i lt)
      ∙ sym (or_bit 0 (bit_at-pow_other (length bs) i (λ e. absurd (omega (arith, e, lt)))) ∙ bit_left (get_or bs i false))

  bit_past : length bs < i → bit_at (mask_l (bs ++ true ∷ [])) i ≡ bit_at (bit_or (mask_l bs) (2 ^ length bs)) i
  bit_past gt =
      more_bit false (get_or_past (bs ++ true ∷ []) i false (omega (arith, gt, length_push bs true)))
      ∙ sym (or_bit 0 (bit_at-pow_other (length bs) i (λ e. absurd (omega (arith, e, gt)))) ∙ bit_left (get_or bs i false) ∙ ap (λ b. cond b 1 0) (get_or_past bs i false (omega (arith, gt))))

-- a test that is passed sets the next bit
mask_true : (bs : List Bool) → mask_l (bs ++ true ∷ []) ≡ bit_or (mask_l bs) (2 ^ length bs)
mask_true bs = same_from_bits _ _ (λ i. ⊎_elim (bit_at_end bs i) (λ e. ⊎_elim (bit_before bs i) (bit_past bs i) e) (cases_order i (length bs)))

-- and one that is not passed sets none
mask_false : (bs : List Bool) → mask_l (bs ++ false ∷ []) ≡ mask_l bs
mask_false [] = refl
mask_false (b ∷ bs) = ap (λ n. cond b 1 0 + 2 * n) (mask_false bs)

-- a bit that fits is not cut off
pub one_shl : (k : ℕ) → k < 64 → 1 * 2 ^ k % 18446744073709551616 ≡ 2 ^ k
one_shl k small =
    let one : 1 * 2 ^ k ≡ 2 ^ k = omega arith in
    ap (λ n. n % 18446744073709551616) one ∙ mod-eq_of_lt (pow-lt small)

module _ (p : ℕ → Bool) (xs : List ℕ) (x start : ℕ) where
  word_stays : (length xs < start) ⊎ (start + 64 ≤ length xs) → row_set p (xs ++ x ∷ []) start ≡ row_set p xs start
  word_stays =
      ⊎_elim
      (λ (after : length xs < start).
      ap (λ ys. mask_l (map p (take 64 ys))) (drop_all start (xs ++ x ∷ []) (omega (arith, after, length_push xs x)) ∙ sym (drop_all start xs (omega (arith, after)))))
      (λ (before : start + 64 ≤ length xs).
      ap (λ ys. mask_l (map p ys)) (ap (take 64) (drop-append-le start xs (x ∷ []) (omega (arith, before))) ∙ take-append-le 64 (drop start xs) (x ∷ []) (omega (arith, before, length-drop start xs))))

  word_grows : start ≤ length xs → length xs < start + 64 → row_set p (xs ++ x ∷ []) start ≡ mask_l (map p (chunk start 64 xs) ++ p x ∷ [])
  word_grows low high =
      let rest = drop start xs in
      let long : length rest < 64 = omega (arith, low, high, length-drop start xs) in
      ap (λ ys. mask_l (map p (take 64 ys))) (drop-append-le start xs (x ∷ []) low)
      ∙ ap (λ ys. mask_l (map p ys)) (take_all 64 (rest ++ x ∷ []) (omega (arith, long, length_push rest x)) ∙ ap (λ ys. ys ++ x ∷ []) (sym (take_all 64 rest (omega (arith, long)))))
      ∙ ap mask_l (map_push p (chunk start 64 xs) x)

  row_fails : p x ≡ false → row_set p (xs ++ x ∷ []) start ≡ row_set p xs start
  row_fails fails =
      ⊎_elim
      (λ (after : length xs < start). word_stays (inl after))
      (λ (low : start ≤ length xs).
      ⊎_elim
      (λ (high : length xs < start + 64). word_grows low high ∙ ap (λ b. mask_l (map p (chunk start 64 xs) ++ b ∷ [])) fails ∙ mask_false (map p (chunk start 64 xs)))
      (λ (before : start + 64 ≤ length xs). word_stays (inr before))
      (cases_lt (length xs) (start + 64)))
      (cases_lt (length xs) start)

  row_passes : p x ≡ true → (bit : ℕ) → start + bit ≡ length xs → bit < 64 → row_set p (xs ++ x ∷ []) start ≡ bit_or (row_set p xs start) (2 ^ bit)
  row_passes passes bit at small =
      let word = chunk start 64 xs in
      let rest = drop start xs in
      let count : length rest ≡ bit = omega (arith, at, length-drop start xs) in
      let long : length (map p word) ≡ bit = length-map word p ∙ ap length (take_all 64 rest (omega (arith, count, small))) ∙ count in
      word_grows (omega (arith, at)) (omega (arith, at, small))
      ∙ ap (λ b. mask_l (map p word ++ b ∷ [])) passes
      ∙ mask_true (map p word)
      ∙ ap (λ n. bit_or (mask_l (map p word)) (2 ^ n)) long

-- ---- where the sets lie

module _ (values : ℕ) (p : Places) (apart : ArePlaces values p) where
  small_value : (v : ℕ) → has (part_values values) v ≡ true → v < 64
  small_value v h =
      ⊎_elim (λ (low : v < 64). low) (λ (high : 64 ≤ v). absurd (let no = sym h ∙ has_large values v (λ low. absurd (omega (arith, high, low))) in cc)) (cases_lt v 64)

  -- no two sets have a word in common
  no_common : (u v j k : ℕ) → has (part_values values) u ≡ true → has (part_values values) v ≡ true → j < p.words → k < p.words → u < v → slice_index p.starts.items u + j ≡ slice_index p.starts.items v + k → ⊥
  no_common u v j k has_u has_v in_u in_v less same = let far = apart.apart u v less (small_value v has_v) has_u in absurd (omega (arith, far, same, in_u))

  other_place : (u v j k : ℕ) → has (part_values values) u ≡ true → has (part_values values) v ≡ true → j < p.words → k < p.words → (u ≡ v → ⊥) → slice_index p.starts.items u + j ≡ slice_index p.starts.items v + k → ⊥
  other_place u v j k has_u has_v in_u in_v ne same =
      ⊎_elim ne
      (λ e. ⊎_elim
      (λ (less : u < v). no_common u v j k has_u has_v in_u in_v less same)
      (λ (more : v < u). no_common v u k j has_v has_u in_v in_u more (sym same))
      e)
      (cases_order u v)

  pub in_sets : (v k : ℕ) → has (part_values values) v ≡ true → k < p.words → slice_index p.starts.items v + k < p.end
  in_sets v k h lt = let last = apart.within v (small_value v h) h in omega (arith, last, lt)

  module _ (rows sets : List ℕ) (n at word : ℕ) (long : length sets ≡ p.end) (lt : n < length rows) (room : n < 64 * p.words) (occurs : has (part_values values) (value_of (get_or rows n 0)) ≡ true) (before : AreMarked values p (take n rows) sets) (at_is : at ≡ slice_index p.starts.items (value_of (get_or rows n 0)) + n / 64) (word_is : word ≡ bit_or (slice_index sets at) (2 ^ (n % 64))) where
    next_row : take (n + 1) rows ≡ take n rows ++ get_or rows n 0 ∷ []
    next_row = take_more rows n 0 lt

    rows_so_far : length (take n rows) ≡ n
    rows_so_far = length-take-le n rows (omega (arith, lt))

    -- a word of another set, or another word of the same
    stays : (v k : ℕ) → (slice_index p.starts.items v + k ≡ at → ⊥) → has (part_values values) v ≡ true → k < p.words → row_set (is_value v) (take n rows ++ get_or rows n 0 ∷ []) (64 * k) ≡ row_set (is_value v) (take n rows) (64 * k) → slice_index (slice_set sets at word) (slice_index p.starts.items v + k) ≡ row_set (is_value v) (take (n + 1) rows) (64 * k)
    stays v k ne h in_set same =
        get_or-set_other sets at (slice_index p.starts.items v + k) word 0 ne
        ∙ before v k h in_set
        ∙ sym (ap (λ xs. row_set (is_value v) xs (64 * k)) next_row ∙ same)

    -- the word of the row
    grows : (v k : ℕ) → v ≡ value_of (get_or rows n 0) → k ≡ n / 64 → has (part_values values) v ≡ true → k < p.words → slice_index (slice_set sets at word) (slice_index p.starts.items v + k) ≡ row_set (is_value v) (take (n + 1) rows) (64 * k)
    grows v k same here h in_set =
        let is_at : slice_index p.starts.items v + k ≡ at = omega (arith, at_is, here, ap (slice_index p.starts.items) same) in
        let inside : at < length sets = omega (arith, sym is_at, in_sets v k h in_set, long) in
        let passes : is_value v (get_or rows n 0) ≡ true = eq-eqb (value_of (get_or rows n 0)) v (sym same) in
        let parts : 64 * k + n % 64 ≡ length (take n rows) = omega (arith, here, rows_so_far) in
        let low : n % 64 < 64 = omega arith in
        ap (slice_index (slice_set sets at word)) is_at
        ∙ get_or-set_same sets at word 0 inside
        ∙ word_is
        ∙ ap (λ x. bit_or x (2 ^ (n % 64))) (ap (slice_index sets) (sym is_at) ∙ before v k h in_set)
        ∙ sym (ap (λ xs. row_set (is_value v) xs (64 * k)) next_row ∙ row_passes (is_value v) (take n rows) (get_or rows n 0) (64 * k) passes (n % 64) parts low)

    other_value : (v k : ℕ) → (v ≡ value_of (get_or rows n 0) → ⊥) → has (part_values values) v ≡ true → k < p.words → slice_index (slice_set sets at word) (slice_index p.starts.items v + k) ≡ row_set (is_value v) (take (n + 1) rows) (64 * k)
    other_value v k ne h in_set =
        let w = get_or rows n 0 in
        stays v k (λ e. other_place v (value_of w) k (n / 64) h occurs in_set (omega (arith, room)) ne (e ∙ at_is)) h in_set
        (row_fails (is_value v) (take n rows) w (64 * k) (ne_eqb (value_of w) v (λ e. ne (sym e))))

    other_word : (v k : ℕ) → v ≡ value_of (get_or rows n 0) → (k ≡ n / 64 → ⊥) → has (part_values values) v ≡ true → k < p.words → slice_index (slice_set sets at word) (slice_index p.starts.items v + k) ≡ row_set (is_value v) (take (n + 1) rows) (64 * k)
    other_word v k same ne h in_set =
        stays v k (λ e. ne (omega (arith, e, at_is, ap (slice_index p.starts.items) same))) h in_set
        (word_stays (is_value v) (take n rows) (get_or rows n 0) (64 * k)
        (⊎_elim
        (λ (before : k < n / 64). inr (omega (arith, before, rows_so_far)))
        (λ (after : n / 64 ≤ k). inl (omega_past after ne))
        (cases_lt k (n / 64))))
      where
        omega_past : n / 64 ≤ k → (k ≡ n / 64 → ⊥) → length (take n rows) < 64 * k
        omega_past le ne =
            ⊎_elim (λ (same : k ≡ n / 64). absurd (ne same)) (λ e. ⊎_elim (λ (l : k < n / 64). absurd (omega (arith, l, le))) (λ (m : n / 64 < k). omega (arith, m, rows_so_far)) e) (cases_order k (n / 64))

    pub one_marked : AreMarked values p (take (n + 1) rows) (slice_set sets at word)
    one_marked v k h in_set =
        ⊎_elim
        (λ (same : v ≡ value_of (get_or rows n 0)). ⊎_elim (λ (here : k ≡ n / 64). grows v k same here h in_set) (λ ne. other_word v k same ne h in_set) (cases_eq k (n / 64)))
        (λ ne. other_value v k ne h in_set)
        (cases_eq v (value_of (get_or rows n 0)))

-- ---- a column

pub all_cut : (c : Column) (p : Places) → ArePlaces c.values p → p.words ≡ 8 * c.blocks → c.starts.items ≡ p.starts.items → length c.sets.items ≡ p.end → c.blocks ≤ block_limit → c.values ≡ ors c.words.items → AreMarked c.values p c.words.items c.sets.items → IsCut c
unfolding row_sets
all_cut c p apart words starts long few whole marked =
    let at : (v : ℕ) → slice_index c.starts.items v ≡ slice_index p.starts.items v = λ v. ap (λ l. slice_index l v) starts in
    let fits : (v : ℕ) → has (part_values c.values) v ≡ true → slice_index c.starts.items v + 8 * c.blocks ≤ length c.sets.items = λ v h. let last = apart.within v (small_value c.values p apart v h) h in omega (arith, last, at v, words, long) in
    record {
      few = few;
      whole = whole;
      starts = λ some. ap length starts ∙ apart.count;
      within = fits;
      marked = λ v h.
          fill_by_all (λ k. row_set (is_value v) c.words.items (64 * k)) (chunk (slice_index c.starts.items v) (8 * c.blocks) c.sets.items) (8 * c.blocks) 0
          (length-chunk (slice_index c.starts.items v) (8 * c.blocks) c.sets.items (fits v h))
          (λ k lt. get_or-chunk (slice_index c.starts.items v) (8 * c.blocks) c.sets.items k 0 lt ∙ ap (λ s. get_or c.sets.items (s + k) 0) (at v) ∙ marked v k h (omega (arith, lt, words)));
    }

-- without blocks there is nothing to mark
pub none_cut : (c : Column) → IsWhole c → IsCut c
none_cut c h =
    let no_words : 8 * c.blocks ≡ 0 = omega (arith, h.none) in
    record {
      few = omega (arith, h.none);
      whole = h.whole;
      starts = λ some. absurd (omega (arith, h.none, some));
      within = λ v has. omega (arith, no_words, ap (λ l. slice_index l v) h.empty);
      marked = λ v has. ap (λ n. chunk (slice_index c.starts.items v) n c.sets.items) no_words ∙ sym (ap (row_sets (is_value v) c.words.items 0) no_words ∙ rows_zero (is_value v) c.words.items 0);
    }
