-- Steps of the loops over values, and over blocks of rows.
use Rattle.std.proofs.Common.{◌≡◌, ℕ, ◌+◌, ◌*◌, ◌<◌, ◌^◌, List, [], ◌∷◌, ◌++◌, length, take, map, filter, replicate, Bool, true, false, cond, not, ◌&&◌, refl, sym, ◌∙◌, ap, arith, ⊎_elim, subst, eqb-true}
use Rattle.std.specs.Prelude.{bit_and, bit_or, count_by, slice_index, ◌||◌, ◌==◌}
use Rattle.std.specs.Int.{bit_at}
use Rattle.std.specs.Int.Bits.{and_zero_l, or_zero_l, or_zero_r}
use Rattle.std.specs.List.{All, list_any}
use Rattle.std.specs.Simd.Lanes.{zip2, chunk}
use Rattle.std.proofs.Math.Seq.{take-add}
use Rattle.std.proofs.Math.Bool.{and-true}
use Rattle.std.proofs.lemmas.Bool.{cases_eq, eq-eqb, ne_eqb}
use Rattle.std.proofs.lemmas.Nat.Bits.{bit_at-lt, bit_at-zero, bit_at_or, same_from_bits, same_from_bits_below}
use Rattle.std.proofs.lemmas.Simd.{zip2_splat, zip2_splat_left}
use Rattle.std.proofs.lemmas.List.Elements.{All-head, All-tail, All-nil, All-cons, All-weaker}
use Rattle.std.proofs.lemmas.List.Folds.{list_any-append}
use Rattle.std.proofs.lemmas.List.Sums.{sum_by-append, sum_by-cons}
use Rattle.wf_model.specs.Lists.{has}
use Rattle.wf_model.proofs.Lemmas.{or_assoc, equal_turned, and_turned, has-filter}
use Rattle.wf_base.specs.Set.Parts.{part_holds, part_values}
use Rattle.wf_base.proofs.OfSet.Lemmas.{has-part_values, part_holds-or, holds_nothing, one_bit}
use Rattle.wf_lane.specs.Words.{Words, is_live, joined_words, ors, meets}
use Rattle.wf_lane.specs.Table.{IsOneHot, AreOneHot, value_of}
use Rattle.wf_lane.specs.declared.column.Column.{Column}
use Rattle.wf_lane.specs.declared.column.Columns.{Columns}
use Rattle.wf_lane.specs.Rows.{AreLeft, AreWanted, OccurIn, is_among, is_met, is_one_of, is_value, row_sets}
use Rattle.wf_lane.proofs.Values.{joined_small, meets_list, value_small, word_holds}
use Rattle.wf_lane.proofs.RowLemmas.{rows_either, rows_both, rows_cong, rows_none, rows_of-map, any_row, length-row_sets}

-- ---- values in a set

both_true : (x y : Bool) → (x && y) ≡ true → x ≡ true
both_true true y e = refl
both_true false y e = e

both_true_r : (x y : Bool) → (x && y) ≡ true → y ≡ true
both_true_r true y e = e
both_true_r false true e = refl
both_true_r false false e = e

or_true : (b : Bool) → (b || true) ≡ true
or_true true = refl
or_true false = refl

-- what is left after the least value is among the values
pub later_occur : (c : Column) (left t others : ℕ) → part_values left ≡ t ∷ part_values others → OccurIn c left → OccurIn c others
later_occur c left t others split occur v h = occur v (ap (λ vs. has vs v) split ∙ ap (λ b. t == v || b) h ∙ or_true (t == v))

pub wanted_occur : (c : Column) (candidates wanted : ℕ) → part_values wanted ≡ filter (has (part_values c.values)) (part_values candidates) → OccurIn c wanted
wanted_occur c candidates wanted e v h = both_true (has (part_values c.values) v) (has (part_values candidates) v) (sym (has-filter (has (part_values c.values)) (part_values candidates) v) ∙ sym (ap (λ vs. has vs v) e) ∙ h)

-- ---- joining lanes

or_nothing : (xs : List ℕ) → map (λ x. bit_or x 0) xs ≡ xs
or_nothing [] = refl
or_nothing (x ∷ xs) = ap (λ y. y ∷ map (λ x. bit_or x 0) xs) (or_zero_r x) ∙ ap (λ ys. x ∷ ys) (or_nothing xs)

nothing_or : (xs : List ℕ) → map (λ x. bit_or 0 x) xs ≡ xs
nothing_or [] = refl
nothing_or (x ∷ xs) = ap (λ y. y ∷ map (λ x. bit_or 0 x) xs) (or_zero_l x) ∙ ap (λ ys. x ∷ ys) (nothing_or xs)

lanes_assoc : (xs ys zs : List ℕ) → zip2 bit_or (zip2 bit_or xs ys) zs ≡ zip2 bit_or xs (zip2 bit_or ys zs)
lanes_assoc [] ys zs = refl
lanes_assoc (x ∷ xs) [] zs = refl
lanes_assoc (x ∷ xs) (y ∷ ys) [] = refl
lanes_assoc (x ∷ xs) (y ∷ ys) (z ∷ zs) = ap (λ w. w ∷ zip2 bit_or (zip2 bit_or xs ys) zs) (or_assoc x y z) ∙ ap (λ ws. bit_or x (bit_or y z) ∷ ws) (lanes_assoc xs ys zs)

abbrev pub among : ℕ → List ℕ → ℕ → List ℕ
among values words start = row_sets (is_one_of values) words start 8

abbrev pub with_value : ℕ → List ℕ → ℕ → List ℕ
with_value v words start = row_sets (is_value v) words start 8

pub among_start : (values : ℕ) (words : List ℕ) (start : ℕ) → zip2 bit_or (replicate 8 0) (among values words start) ≡ among values words start
among_start values words start = zip2_splat_left bit_or 0 8 (among values words start) (length-row_sets (is_one_of values) words start 8) ∙ nothing_or (among values words start)

pub among_end : (joined : List ℕ) (left : ℕ) (words : List ℕ) (start : ℕ) → length joined ≡ 8 → part_values left ≡ [] → zip2 bit_or joined (among left words start) ≡ joined
among_end joined left words start long none =
    ap (zip2 bit_or joined) (rows_cong (is_one_of left) (λ w. false) words start 8 (λ w. ap (λ vs. has vs (value_of w)) none) ∙ rows_none words start)
    ∙ zip2_splat bit_or joined 8 0 long ∙ or_nothing joined

pub among_step : (joined : List ℕ) (left t others : ℕ) (words : List ℕ) (start : ℕ) → part_values left ≡ t ∷ part_values others → zip2 bit_or (zip2 bit_or joined (with_value t words start)) (among others words start) ≡ zip2 bit_or joined (among left words start)
among_step joined left t others words start split =
    lanes_assoc joined (with_value t words start) (among others words start)
    ∙ ap (zip2 bit_or joined)
    (rows_either (is_value t) (is_one_of others) words start 8
    ∙ rows_cong (λ w. is_value t w || is_one_of others w) (is_one_of left) words start 8
    (λ w. ap (λ b. b || is_one_of others w) (equal_turned (value_of w) t) ∙ sym (ap (λ vs. has vs (value_of w)) split)))

-- ---- values that are met

kept_if : (b : Bool) (t v : ℕ) (xs : List ℕ) → has (cond b (filter (λ x. not (x == t)) xs) xs) v ≡ (has xs v && not (b && (v == t)))
kept_if true t v xs = has-filter (λ x. not (x == t)) xs v ∙ and_turned (not (v == t)) (has xs v)
kept_if false t v xs = sym (and-true (has xs v))

-- the value that was taken, which is met or isn't
taken_test : (u o c : Bool) → ((u && not (c && true)) && not (o && c)) ≡ (u && not ((true || o) && c))
taken_test true true true = refl
taken_test true true false = refl
taken_test true false true = refl
taken_test true false false = refl
taken_test false o c = refl

-- another value
other_test : (u o c t : Bool) → ((u && not (t && false)) && not (o && c)) ≡ (u && not ((false || o) && c))
other_test true o c true = refl
other_test true o c false = refl
other_test false o c t = refl

pub unmet_step : (c : ℕ → Bool) (unmet next left t others v : ℕ) → part_values left ≡ t ∷ part_values others → part_values next ≡ cond (c t) (filter (λ x. not (x == t)) (part_values unmet)) (part_values unmet)
    → (has (part_values next) v && not (has (part_values others) v && c v)) ≡ (has (part_values unmet) v && not (has (part_values left) v && c v))
unmet_step c unmet next left t others v split e =
    let u = has (part_values unmet) v in
    let o = has (part_values others) v in
    ap (λ b. b && not (o && c v)) (ap (λ vs. has vs v) e ∙ kept_if (c t) t v (part_values unmet))
    ∙ ⊎_elim
    (λ (same : t ≡ v).
    ap (λ b. (u && not (b && (v == t))) && not (o && c v)) (ap c same)
    ∙ ap (λ b. (u && not (c v && b)) && not (o && c v)) (eq-eqb v t (sym same))
    ∙ taken_test u o (c v)
    ∙ sym (ap (λ b. u && not ((b || o) && c v)) (eq-eqb t v same)))
    (λ (ne : t ≡ v → ⊥).
    ap (λ b. (u && not (c t && b)) && not (o && c v)) (ne_eqb v t (λ k. ne (sym k)))
    ∙ other_test u o (c v) (c t)
    ∙ sym (ap (λ b. u && not ((b || o) && c v)) (ne_eqb t v ne)))
    (cases_eq t v)
    ∙ sym (ap (λ vs. u && not (has vs v && c v)) split)

start_test : (h c : Bool) → (h && not (h && c)) ≡ (h && not c)
start_test true c = refl
start_test false c = refl

pub unmet_start : (c : ℕ → Bool) (values v : ℕ) → (has (part_values values) v && not (has (part_values values) v && c v)) ≡ (has (part_values values) v && not (c v))
unmet_start c values v = start_test (has (part_values values) v) (c v)

pub unmet_end : (c : ℕ → Bool) (unmet left v : ℕ) → part_values left ≡ [] → (has (part_values unmet) v && not (has (part_values left) v && c v)) ≡ has (part_values unmet) v
unmet_end c unmet left v none = ap (λ vs. has (part_values unmet) v && not (has vs v && c v)) none ∙ and-true (has (part_values unmet) v)

-- ---- the rows of four columns

-- rows that are alive, lane by lane
pub live_lanes : (s : List ℕ) (a b c d : List ℕ) (rows : List Words) (start : ℕ) → map (λ (r : Words). r.first) rows ≡ a → map (λ (r : Words). r.second) rows ≡ b → map (λ (r : Words). r.third) rows ≡ c → map (λ (r : Words). r.fourth) rows ≡ d →
    zip2 bit_and (zip2 bit_and (zip2 bit_and (among (slice_index s 0) a start) (among (slice_index s 1) b start)) (among (slice_index s 2) c start)) (among (slice_index s 3) d start) ≡ row_sets (is_among s) rows start 8
live_lanes s a b c d rows start ea eb ec ed =
    let p0 = λ (r : Words). is_one_of (slice_index s 0) r.first in
    let p1 = λ (r : Words). is_one_of (slice_index s 1) r.second in
    let p2 = λ (r : Words). is_one_of (slice_index s 2) r.third in
    let p3 = λ (r : Words). is_one_of (slice_index s 3) r.fourth in
    let e0 = rows_of-map (λ (r : Words). r.first) (is_one_of (slice_index s 0)) rows a start 8 ea in
    let e1 = rows_of-map (λ (r : Words). r.second) (is_one_of (slice_index s 1)) rows b start 8 eb in
    let e2 = rows_of-map (λ (r : Words). r.third) (is_one_of (slice_index s 2)) rows c start 8 ec in
    let e3 = rows_of-map (λ (r : Words). r.fourth) (is_one_of (slice_index s 3)) rows d start 8 ed in
    ap (λ l. zip2 bit_and (zip2 bit_and (zip2 bit_and l (among (slice_index s 1) b start)) (among (slice_index s 2) c start)) (among (slice_index s 3) d start)) e0
    ∙ ap (λ l. zip2 bit_and (zip2 bit_and (zip2 bit_and (row_sets p0 rows start 8) l) (among (slice_index s 2) c start)) (among (slice_index s 3) d start)) e1
    ∙ ap (λ l. zip2 bit_and (zip2 bit_and l (among (slice_index s 2) c start)) (among (slice_index s 3) d start)) (rows_both p0 p1 rows start 8)
    ∙ ap (λ l. zip2 bit_and (zip2 bit_and (row_sets (λ r. p0 r && p1 r) rows start 8) l) (among (slice_index s 3) d start)) e2
    ∙ ap (λ l. zip2 bit_and l (among (slice_index s 3) d start)) (rows_both (λ r. p0 r && p1 r) p2 rows start 8)
    ∙ ap (zip2 bit_and (row_sets (λ r. p0 r && p1 r && p2 r) rows start 8)) e3
    ∙ rows_both (λ r. p0 r && p1 r && p2 r) p3 rows start 8

-- ---- block by block

-- a row whose values are all wanted has this one at a place
abbrev pub has_value : List ℕ → (Words → ℕ) → ℕ → Words → Bool
has_value s w v r = is_among s r && is_value v (w r)

-- the values wanted at a place that no row of these has whose values are all wanted
abbrev pub AreUnmet : ℕ → List ℕ → ℕ → (Words → ℕ) → List Words → Type 0
AreUnmet unmet s wanted w rows = AreLeft unmet wanted (λ v. list_any (has_value s w v) rows)

pub no_rows_yet : (s : List ℕ) (wanted : ℕ) (w : Words → ℕ) → AreUnmet wanted s wanted w []
no_rows_yet s wanted w v = sym (and-true (has (part_values wanted) v))

any_and : {X : Type 0} (b : Bool) (p : X → Bool) (xs : List X) → ((x : X) → p x ≡ true → b ≡ true) → (b && list_any p xs) ≡ list_any p xs
any_and true p xs h = refl
any_and false p [] h = refl
any_and false p (x ∷ xs) h = any_and false p xs h ∙ sym (first_fails (p x) (h x))
  where
    first_fails : (b : Bool) → (b ≡ true → false ≡ true) → (b || list_any p xs) ≡ list_any p xs
    first_fails true k = absurd (let no = k refl in cc)
    first_fails false k = refl

pub blocks_more : {X : Type 0} (rows : List X) (block : ℕ) → take (512 * (block + 1)) rows ≡ take (512 * block) rows ++ chunk (64 * (8 * block)) (64 * 8) rows
blocks_more rows block =
    ap (λ k. take k rows) (let e : 512 * (block + 1) ≡ 512 * block + 512 = omega arith in e)
    ∙ take-add (512 * block) 512 rows
    ∙ ap (λ k. take (512 * block) rows ++ chunk k 512 rows) (let e : 512 * block ≡ 64 * (8 * block) = omega arith in e)

left_test : (h a b : Bool) → ((h && not a) && not b) ≡ (h && not (a || b))
left_test true true b = refl
left_test true false b = refl
left_test false a b = refl

-- what is left after one block more
pub unmet_more : (s : List ℕ) (w : Words → ℕ) (rows : List Words) (words : List ℕ) (unmet next wanted : ℕ) (live : List ℕ) (block : ℕ) → map w rows ≡ words → live ≡ row_sets (is_among s) rows (8 * block) 8 → AreUnmet unmet s wanted w (take (512 * block) rows) → AreLeft next unmet (is_met live words (8 * block)) → AreUnmet next s wanted w (take (512 * (block + 1)) rows)
unmet_more s w rows words unmet next wanted live block col lanes before step v =
    let p = has_value s w v in
    let seen = take (512 * block) rows in
    let here = chunk (64 * (8 * block)) (64 * 8) rows in
    let met : is_met live words (8 * block) v ≡ list_any p here =
    ap (λ l. not (ors (zip2 bit_and l (with_value v words (8 * block))) == 0)) lanes
    ∙ ap (λ l. not (ors (zip2 bit_and (row_sets (is_among s) rows (8 * block) 8) l) == 0)) (rows_of-map w (is_value v) rows words (8 * block) 8 col)
    ∙ ap (λ l. not (ors l == 0)) (rows_both (is_among s) (λ r. is_value v (w r)) rows (8 * block) 8)
    ∙ any_row p rows (8 * block) 8 in
    step v
    ∙ ap (λ b. has (part_values unmet) v && not b) met
    ∙ ap (λ b. b && not (list_any p here)) (before v)
    ∙ left_test (has (part_values wanted) v) (list_any p seen) (list_any p here)
    ∙ ap (λ b. has (part_values wanted) v && not b) (sym (ap (list_any p) (blocks_more rows block) ∙ list_any-append p seen here))

pub count_more_rows : (s : List ℕ) (rows : List Words) (block : ℕ) → count_by (is_among s) (take (512 * (block + 1)) rows) ≡ count_by (is_among s) (take (512 * block) rows) + count_by (is_among s) (chunk (64 * (8 * block)) (64 * 8) rows)
count_more_rows s rows block = ap (count_by (is_among s)) (blocks_more rows block) ∙ sum_by-append (λ x. cond (is_among s x) 1 0) (take (512 * block) rows) (chunk (64 * (8 * block)) (64 * 8) rows)

-- the four tests of a row
module _ (s : List ℕ) (r : Words) (h : is_among s r ≡ true) where
  abbrev test0 : Bool
  test0 = is_one_of (slice_index s 0) r.first

  abbrev test1 : Bool
  test1 = is_one_of (slice_index s 1) r.second

  abbrev test2 : Bool
  test2 = is_one_of (slice_index s 2) r.third

  abbrev test3 : Bool
  test3 = is_one_of (slice_index s 3) r.fourth

  pub among_first : is_one_of (slice_index s 0) r.first ≡ true
  among_first = both_true test0 test1 (both_true (test0 && test1) test2 (both_true (test0 && test1 && test2) test3 h))

  pub among_second : is_one_of (slice_index s 1) r.second ≡ true
  among_second = both_true_r test0 test1 (both_true (test0 && test1) test2 (both_true (test0 && test1 && test2) test3 h))

  pub among_third : is_one_of (slice_index s 2) r.third ≡ true
  among_third = both_true_r (test0 && test1) test2 (both_true (test0 && test1 && test2) test3 h)

  pub among_fourth : is_one_of (slice_index s 3) r.fourth ≡ true
  among_fourth = both_true_r (test0 && test1 && test2) test3 h

-- ---- all blocks together

-- the values of these rows occur
occurring : (w : Words → ℕ) → ((r : Words) → AreOneHot r → IsOneHot (w r)) → (rows : List Words) → All AreOneHot rows → All (λ r. part_holds (ors (map w rows)) (value_of (w r)) ≡ true) rows
occurring w one [] h = All-nil (λ r. part_holds (ors (map w [])) (value_of (w r)) ≡ true)
occurring w one (r ∷ rows) h =
    let hot = one r (All-head AreOneHot r rows h) in
    let rest = ors (map w rows) in
    All-cons (λ k. part_holds (bit_or (w r) rest) (value_of (w k)) ≡ true) r rows
    (part_holds-or (w r) rest (value_of (w r)) ∙ ap (λ b. b || part_holds rest (value_of (w r))) (word_holds (w r) (value_of (w r)) hot ∙ eq-eqb (value_of (w r)) (value_of (w r)) refl))
    (All-weaker (λ k. part_holds rest (value_of (w k)) ≡ true) (λ k. part_holds (bit_or (w r) rest) (value_of (w k)) ≡ true)
    (λ k yes_so. part_holds-or (w r) rest (value_of (w k)) ∙ ap (λ b. part_holds (w r) (value_of (w k)) || b) yes_so ∙ or_true (part_holds (w r) (value_of (w k))))
    rows (occurring w one rows (All-tail AreOneHot r rows h)))

-- whether a candidate that occurs is wanted
wanted_test : (wanted candidates values word : ℕ) → part_values wanted ≡ filter (has (part_values values)) (part_values candidates) → IsOneHot word → part_holds values (value_of word) ≡ true → is_one_of wanted word ≡ meets word candidates
wanted_test wanted candidates values word e hot occurs =
    ap (λ vs. has vs (value_of word)) e
    ∙ has-filter (has (part_values values)) (part_values candidates) (value_of word)
    ∙ ap (λ b. b && is_one_of candidates word) (has-part_values values (value_of word) (value_small word hot) ∙ occurs)
    ∙ sym (meets_list word candidates hot)

-- the values of four columns
pub record HaveValues (c : Columns) (rows : List Words) : Type 0 where
  pub first : c.first.values ≡ ors (map (λ (r : Words). r.first) rows)
  pub second : c.second.values ≡ ors (map (λ (r : Words). r.second) rows)
  pub third : c.third.values ≡ ors (map (λ (r : Words). r.third) rows)
  pub fourth : c.fourth.values ≡ ors (map (λ (r : Words). r.fourth) rows)

four_same : (a b c d a' b' c' d' : Bool) → a ≡ a' → b ≡ b' → c ≡ c' → d ≡ d' → (a && b && c && d) ≡ (a' && b' && c' && d')
four_same a b c d a' b' c' d' e f g h = ap (λ x. x && b && c && d) e ∙ ap (λ x. a' && x && c && d) f ∙ ap (λ x. a' && b' && x && d) g ∙ ap (λ x. a' && b' && c' && x) h

module _ (c : Columns) (wanted candidates : List ℕ) (w : AreWanted c wanted candidates) where
  alike : (rows : List Words) → All AreOneHot rows
      → All (λ r. part_holds c.first.values (value_of r.first) ≡ true) rows → All (λ r. part_holds c.second.values (value_of r.second) ≡ true) rows
      → All (λ r. part_holds c.third.values (value_of r.third) ≡ true) rows → All (λ r. part_holds c.fourth.values (value_of r.fourth) ≡ true) rows
      → All (λ r. is_among wanted r ≡ is_live candidates r) rows
  alike [] h in0 in1 in2 in3 = All-nil (λ r. is_among wanted r ≡ is_live candidates r)
  alike (r ∷ rows) h in0 in1 in2 in3 =
      let P0 = λ (k : Words). part_holds c.first.values (value_of k.first) ≡ true in
      let P1 = λ (k : Words). part_holds c.second.values (value_of k.second) ≡ true in
      let P2 = λ (k : Words). part_holds c.third.values (value_of k.third) ≡ true in
      let P3 = λ (k : Words). part_holds c.fourth.values (value_of k.fourth) ≡ true in
      let hot = All-head AreOneHot r rows h in
      All-cons (λ k. is_among wanted k ≡ is_live candidates k) r rows
      (four_same _ _ _ _ _ _ _ _
      (wanted_test (slice_index wanted 0) (slice_index candidates 0) c.first.values r.first w.first hot.first (All-head P0 r rows in0))
      (wanted_test (slice_index wanted 1) (slice_index candidates 1) c.second.values r.second w.second hot.second (All-head P1 r rows in1))
      (wanted_test (slice_index wanted 2) (slice_index candidates 2) c.third.values r.third w.third hot.third (All-head P2 r rows in2))
      (wanted_test (slice_index wanted 3) (slice_index candidates 3) c.fourth.values r.fourth w.fourth hot.fourth (All-head P3 r rows in3)))
      (alike rows (All-tail AreOneHot r rows h) (All-tail P0 r rows in0) (All-tail P1 r rows in1) (All-tail P2 r rows in2) (All-tail P3 r rows in3))

  pub tests_alike : (rows : List Words) → All AreOneHot rows → HaveValues c rows → All (λ r. is_among wanted r ≡ is_live candidates r) rows
  tests_alike rows h v =
      alike rows h
      (subst (λ n. All (λ r. part_holds n (value_of r.first) ≡ true) rows) (sym v.first) (occurring (λ r. r.first) (λ r k. k.first) rows h))
      (subst (λ n. All (λ r. part_holds n (value_of r.second) ≡ true) rows) (sym v.second) (occurring (λ r. r.second) (λ r k. k.second) rows h))
      (subst (λ n. All (λ r. part_holds n (value_of r.third) ≡ true) rows) (sym v.third) (occurring (λ r. r.third) (λ r k. k.third) rows h))
      (subst (λ n. All (λ r. part_holds n (value_of r.fourth) ≡ true) rows) (sym v.fourth) (occurring (λ r. r.fourth) (λ r k. k.fourth) rows h))

kept_word : (b : Bool) (word v : ℕ) → IsOneHot word → part_holds (cond b word 0) v ≡ (b && is_value v word)
kept_word true word v hot = word_holds word v hot
kept_word false word v hot = holds_nothing v

joined_holds : (s t : List ℕ) (w : Words → ℕ) (v : ℕ) → ((r : Words) → AreOneHot r → IsOneHot (w r)) → (rows : List Words) → All AreOneHot rows → All (λ r. is_among t r ≡ is_live s r) rows → part_holds (joined_words s w rows) v ≡ list_any (has_value t w v) rows
joined_holds s t w v one [] h same = holds_nothing v
joined_holds s t w v one (r ∷ rows) h same =
    part_holds-or (cond (is_live s r) (w r) 0) (joined_words s w rows) v
    ∙ ap (λ b. b || part_holds (joined_words s w rows) v) (kept_word (is_live s r) (w r) v (one r (All-head AreOneHot r rows h)) ∙ ap (λ b. b && is_value v (w r)) (sym (All-head (λ k. is_among t k ≡ is_live s k) r rows same)))
    ∙ ap (λ b. has_value t w v r || b) (joined_holds s t w v one rows (All-tail AreOneHot r rows h) (All-tail (λ k. is_among t k ≡ is_live s k) r rows same))

mask_test : (h a : Bool) → (not (h && not a) && h) ≡ (h && a)
mask_test true true = refl
mask_test true false = refl
mask_test false a = refl

-- the wanted values that were met are those of the live rows
pub whole_mask : (s t : List ℕ) (w : Words → ℕ) (mask wanted unmet : ℕ) (rows : List Words) → ((r : Words) → AreOneHot r → IsOneHot (w r)) → ((r : Words) → is_among t r ≡ true → is_one_of wanted (w r) ≡ true) → All AreOneHot rows → All (λ r. is_among t r ≡ is_live s r) rows → mask < 2 ^ 64 → part_values mask ≡ filter (λ v. not (has (part_values unmet) v)) (part_values wanted) → AreUnmet unmet t wanted w rows → mask ≡ joined_words s w rows
whole_mask s t w mask wanted unmet rows one part h same fits e are =
    let joined = joined_words s w rows in
    same_from_bits_below 64 mask joined fits (joined_small s w one rows h)
    (λ v small.
    let found = list_any (has_value t w v) rows in
    let wants = has (part_values wanted) v in
    one_bit (bit_at mask v) (bit_at joined v) (bit_at-lt mask v) (bit_at-lt joined v)
    (sym (has-part_values mask v small)
    ∙ ap (λ vs. has vs v) e
    ∙ has-filter (λ k. not (has (part_values unmet) k)) (part_values wanted) v
    ∙ ap (λ b. not b && wants) (are v)
    ∙ mask_test wants found
    ∙ any_and wants (has_value t w v) rows
    (λ r yes_so. subst (λ k. has (part_values wanted) k ≡ true) (eqb-true (value_of (w r)) v (both_true_r (is_among t r) (is_value v (w r)) yes_so)) (part r (both_true (is_among t r) (is_value v (w r)) yes_so)))
    ∙ sym (joined_holds s t w v one rows h same)))

pub whole_count : (s t : List ℕ) (rows : List Words) → All (λ r. is_among t r ≡ is_live s r) rows → count_by (is_among t) rows ≡ count_by (is_live s) rows
whole_count s t [] same = refl
whole_count s t (r ∷ rows) same =
    sum_by-cons (λ x. cond (is_among t x) 1 0) r rows
    ∙ ap (λ b. cond b 1 0 + count_by (is_among t) rows) (All-head (λ k. is_among t k ≡ is_live s k) r rows same)
    ∙ ap (λ n. cond (is_live s r) 1 0 + n) (whole_count s t rows (All-tail (λ k. is_among t k ≡ is_live s k) r rows same))
    ∙ sym (sum_by-cons (λ x. cond (is_live s x) 1 0) r rows)

-- ---- a block without a live row

nothing_joined : (a b : ℕ) → bit_or a b ≡ 0 → a ≡ 0
nothing_joined a b none = same_from_bits a 0 (λ i. omega (arith, bit_at_or a b i, ap (λ n. bit_at n i) none, bit_at-zero i))

none_met : (live rows : List ℕ) → ors live ≡ 0 → ors (zip2 bit_and live rows) ≡ 0
none_met [] rows none = refl
none_met (x ∷ xs) [] none = refl
none_met (x ∷ xs) (y ∷ ys) none =
    let here : x ≡ 0 = nothing_joined x (ors xs) none in
    let there : ors xs ≡ 0 = sym (or_zero_l (ors xs)) ∙ ap (λ n. bit_or n (ors xs)) (sym here) ∙ none in
    ap (λ n. bit_or (bit_and n y) (ors (zip2 bit_and xs ys))) here ∙ ap (λ n. bit_or n (ors (zip2 bit_and xs ys))) (and_zero_l y) ∙ or_zero_l (ors (zip2 bit_and xs ys)) ∙ none_met xs ys there

kept_true : (b : Bool) → b ≡ (b && true)
kept_true true = refl
kept_true false = refl

-- meets none of the values
pub all_unmet : (values : ℕ) (live words : List ℕ) (start : ℕ) → ors live ≡ 0 → AreLeft values values (is_met live words start)
all_unmet values live words start none v =
    kept_true (has (part_values values) v) ∙ ap (λ n. has (part_values values) v && not (not (n == 0))) (sym (none_met live (row_sets (is_value v) words start 8) none))

not_not : (b : Bool) → not b ≡ false → b ≡ true
not_not true e = refl
not_not false e = sym e

-- a test of no live row
pub none_from_test : (n : ℕ) (some : Bool) → some ≡ not (n == 0) → some ≡ false → n ≡ 0
none_from_test n some is false_so = eqb-true n 0 (not_not (n == 0) (sym is ∙ false_so))
