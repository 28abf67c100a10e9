-- Laws of words: a word beside the ascending list of its values.
use Rattle.std.proofs.Common.{pow_pos, ◌≡◌, ℕ, zero, suc, ◌+◌, ◌-◌, ◌*◌, ◌/◌, ◌%◌, ◌<◌, ◌≤◌, ◌^◌, List, [], ◌∷◌, length, Bool, true, false, cond, not, ◌&&◌, min, refl, sym, ◌∙◌, ap, arith, ⊎_elim, subst, max, eqb-true, w64}
use Rattle.std.specs.Prelude.{bit_and, bit_or, count_ones, slice_index, ◌==◌, ◌||◌}
use Rattle.std.specs.Int.{bit_at, bit_not, trailing_zeros}
use Rattle.std.specs.List.{All, AllByRecursion, filter, range_with_len}
use Rattle.std.specs.Int.Count.{ones_step}
use Rattle.std.proofs.Math.Nat.{suc-mul, pow-suc}
use Rattle.std.proofs.lemmas.Bool.{cases_eq, eq-eqb, ne_eqb, and_left, and_right, or_from}
use Rattle.std.proofs.lemmas.Nat.{shr_split, mod_below, one_shl, pow_below, ones_le_self, zero_from_ones}
use Rattle.std.proofs.lemmas.Nat.Bits.{bit_at_and, bit_at_not, bit_at-lt, bit_at-zero, bit_at-suc, bit_at_lowest, bit_at_cat_low, bit_at_cat_high, bit_at-trailing_zeros, same_from_bits_below, bit_at_or, bit_at-pow_same, bit_at-pow_other}
use Rattle.std.proofs.lemmas.List.Elements.{All-nil, All-cons, All-filter, All-weaker, recursion_from_All}
use Rattle.wf_model.specs.Lists.{below, has}
use Rattle.wf_model.proofs.Lemmas.{Ascends, ascends_filter, equal_turned}
use Rattle.std.proofs.lemmas.List.FromFn.{get_or-range_with_len, length-range_with_len}
use Rattle.std.proofs.lemmas.List.Folds.{list_any_at}
use Rattle.std.proofs.lemmas.Map.Views.{any-filter_same}
use Rattle.std.proofs.Math.Bool.{and-true}
use Rattle.wf_base.specs.Set.Parts.{part_holds, part_values}

-- ---- the bits of a word

or_test : (m n : ℕ) → m < 2 → n < 2 → (max m n == 1) ≡ (m == 1 || n == 1)
or_test zero zero h k = refl
or_test zero (suc zero) h k = refl
or_test (suc zero) zero h k = refl
or_test (suc zero) (suc zero) h k = refl
or_test (suc (suc m)) n h k = absurd (omega arith)
or_test zero (suc (suc n)) h k = absurd (omega arith)
or_test (suc zero) (suc (suc n)) h k = absurd (omega arith)

pub part_holds-or : (x y a : ℕ) → part_holds (bit_or x y) a ≡ (part_holds x a || part_holds y a)
part_holds-or x y a = ap (λ b. b == 1) (bit_at_or x y a) ∙ or_test (bit_at x a) (bit_at y a) (bit_at-lt x a) (bit_at-lt y a)

pub holds_nothing : (a : ℕ) → part_holds 0 a ≡ false
holds_nothing a = ap (λ b. b == 1) (bit_at-zero a)

pub part_holds-pow : (k a : ℕ) → part_holds (2 ^ k) a ≡ (k == a)
part_holds-pow k a = ⊎_elim (λ (e : a ≡ k). subst (λ j. part_holds (2 ^ k) j ≡ (k == j)) (sym e) (ap (λ b. b == 1) (bit_at-pow_same k) ∙ sym (eq-eqb k k refl))) (λ (ne : a ≡ k → ⊥). ap (λ b. b == 1) (bit_at-pow_other k a ne) ∙ sym (ne_eqb k a (λ e. ne (sym e)))) (cases_eq a k)

-- ---- lists of a word's values

pub in_below : (n v : ℕ) → v < n → has (below n) v ≡ true
in_below n v h = list_any_at (λ y. y == v) (below n) v 0 (rw (length-range_with_len 0 n) h) (rw (get_or-range_with_len 0 n v 0 h) (eq-eqb (0 + v) v (omega arith)))

-- a value is in the list where its bit is set
pub has-part_values : (word v : ℕ) → v < 64 → has (part_values word) v ≡ part_holds word v
unfolding part_values
has-part_values word v h =
    any-filter_same (λ y. y == v) (part_holds word) (part_holds word v) (λ k e. ap (part_holds word) (eqb-true k v e)) (below 64)
    ∙ ap (λ b. part_holds word v && b) (in_below 64 v h) ∙ and-true (part_holds word v)

-- ---- filters of a run of numbers

pub run_agrees : (p q : ℕ → Bool) (a n : ℕ) → ((v : ℕ) → a ≤ v → v < a + n → p v ≡ q v) → filter p (range_with_len a n) ≡ filter q (range_with_len a n)
run_agrees p q a zero same = refl
run_agrees p q a (suc n) same =
    ap (λ b. cond b (a ∷ filter p (range_with_len (a + 1) n)) (filter p (range_with_len (a + 1) n))) (same a (omega arith) (omega arith))
    ∙ ap (λ vs. cond (q a) (a ∷ vs) vs) (run_agrees p q (a + 1) n (λ v low high. same v (omega arith) (omega arith)))

pub run_of_none : (a n : ℕ) → filter (λ v. false) (range_with_len a n) ≡ []
run_of_none a zero = refl
run_of_none a (suc n) = run_of_none (a + 1) n

one_by_two : {X : Type 0} (p : X → Bool) (x : X) (xs : List X) (b : Bool) → filter p (cond b (x ∷ xs) xs) ≡ cond (b && p x) (x ∷ filter p xs) (filter p xs)
one_by_two p x xs true = refl
one_by_two p x xs false = refl

pub by_two : {X : Type 0} (p q : X → Bool) (xs : List X) → filter p (filter q xs) ≡ filter (λ x. q x && p x) xs
by_two p q [] = refl
by_two p q (x ∷ xs) = one_by_two p x (filter q xs) (q x) ∙ ap (λ ys. cond (q x && p x) (x ∷ ys) ys) (by_two p q xs)

-- t is the first number that p keeps, and q keeps what p does but t
pub first_kept : (p q : ℕ → Bool) (t a n : ℕ) → a ≤ t → t < a + n → ((v : ℕ) → v < t → p v ≡ false) → p t ≡ true → ((v : ℕ) → v ≤ t → q v ≡ false) → ((v : ℕ) → t < v → v < a + n → p v ≡ q v) → filter p (range_with_len a n) ≡ t ∷ filter q (range_with_len a n)
first_kept p q t a zero low high before at no_q after = absurd (omega arith)
first_kept p q t a (suc n) low high before at no_q after =
    let ps = filter p (range_with_len (a + 1) n) in
    let qs = filter q (range_with_len (a + 1) n) in
    let q_skips : cond (q a) (a ∷ qs) qs ≡ qs = ap (λ b. cond b (a ∷ qs) qs) (no_q a low) in
    ⊎_elim
    (λ (e : a ≡ t).
    let p_keeps : cond (p a) (a ∷ ps) ps ≡ a ∷ ps = ap (λ b. cond b (a ∷ ps) ps) (ap p e ∙ at) in
    p_keeps ∙ ap (λ v. v ∷ ps) e ∙ ap (λ vs. t ∷ vs) (run_agrees p q (a + 1) n (λ v l h. after v (omega arith) (omega arith)) ∙ sym q_skips))
    (λ (ne : a ≡ t → ⊥).
    let less : a < t = omega (arith, ne) in
    let p_skips : cond (p a) (a ∷ ps) ps ≡ ps = ap (λ b. cond b (a ∷ ps) ps) (before a less) in
    p_skips ∙ first_kept p q t (a + 1) n (omega arith) (omega arith) before at no_q (λ v l h. after v l (omega arith)) ∙ ap (λ vs. t ∷ vs) (sym q_skips))
    (cases_eq a t)

-- ---- one value

and_test : (m n : ℕ) → m < 2 → n < 2 → (min m n == 1) ≡ (m == 1 && n == 1)
and_test zero zero h k = refl
and_test zero (suc zero) h k = refl
and_test (suc zero) zero h k = refl
and_test (suc zero) (suc zero) h k = refl
and_test (suc (suc m)) n h k = absurd (omega arith)
and_test zero (suc (suc n)) h k = absurd (omega arith)
and_test (suc zero) (suc (suc n)) h k = absurd (omega arith)

pub part_holds-and : (x y v : ℕ) → part_holds (bit_and x y) v ≡ (part_holds x v && part_holds y v)
part_holds-and x y v = ap (λ b. b == 1) (bit_at_and x y v) ∙ and_test (bit_at x v) (bit_at y v) (bit_at-lt x v) (bit_at-lt y v)

not_test : (m : ℕ) → m < 2 → (1 - m == 1) ≡ not (m == 1)
not_test zero h = refl
not_test (suc zero) h = refl
not_test (suc (suc m)) h = absurd (omega arith)

pub part_holds-not : (x v : ℕ) → x < 2 ^ 64 → v < 64 → part_holds (bit_not w64 x) v ≡ not (part_holds x v)
part_holds-not x v fits small = ap (λ b. b == 1) (bit_at_not w64 x v fits small) ∙ not_test (bit_at x v) (bit_at-lt x v)

pub one_bit : (m n : ℕ) → m < 2 → n < 2 → (m == 1) ≡ (n == 1) → m ≡ n
one_bit zero zero h k e = refl
one_bit zero (suc zero) h k e = cc
one_bit (suc zero) zero h k e = cc
one_bit (suc zero) (suc zero) h k e = refl
one_bit (suc (suc m)) n h k e = absurd (omega arith)
one_bit zero (suc (suc n)) h k e = absurd (omega arith)
one_bit (suc zero) (suc (suc n)) h k e = absurd (omega arith)

-- ---- a word and its values

-- a word that part_holds those values of another that pass a test
pub values-filter : (word other : ℕ) (p : ℕ → Bool) → ((v : ℕ) → v < 64 → part_holds other v ≡ (part_holds word v && p v)) → part_values other ≡ filter p (part_values word)
unfolding part_values
values-filter word other p same =
    run_agrees (part_holds other) (λ v. part_holds word v && p v) 0 64 (λ v low high. same v (omega arith)) ∙ sym (by_two p (part_holds word) (below 64))

pub values_of_nothing : part_values 0 ≡ []
unfolding part_values
values_of_nothing = run_agrees (part_holds 0) (λ v. false) 0 64 (λ v low high. holds_nothing v) ∙ run_of_none 0 64

-- ---- words by their values

-- ---- order and range

pub in_run : (a n : ℕ) → All (λ v. v < a + n) (range_with_len a n)
in_run a zero = All-nil (λ v. v < a + 0)
in_run a (suc n) = All-cons (λ v. v < a + suc n) a (range_with_len (a + 1) n) (omega arith) (All-weaker (λ v. v < a + 1 + n) (λ v. v < a + suc n) (λ v h. omega (arith, h)) (range_with_len (a + 1) n) (in_run (a + 1) n))

pub values_small : (word : ℕ) → All (λ v. v < 64) (part_values word)
unfolding part_values
values_small word = All-filter (part_holds word) (λ v. v < 64) (below 64) (in_run 0 64)

later_in_run : (x a n : ℕ) → x < a → AllByRecursion (λ v. x < v) (range_with_len a n)
later_in_run x a zero h = tt
later_in_run x a (suc n) h = (h, later_in_run x (a + 1) n (omega arith))

pub run_ascends : (a n : ℕ) → Ascends (range_with_len a n)
run_ascends a zero = tt
run_ascends a (suc n) = (later_in_run a (a + 1) n (omega arith), run_ascends (a + 1) n)

pub values_ascend : (word : ℕ) → Ascends (part_values word)
unfolding part_values
values_ascend word = ascends_filter (part_holds word) (below 64) (run_ascends 0 64)

-- ---- how many

moved_run : (p : ℕ → Bool) (a n : ℕ) → length (filter p (range_with_len (a + 1) n)) ≡ length (filter (λ v. p (suc v)) (range_with_len a n))
moved_run p a zero = refl
moved_run p a (suc n) =
    let ps = filter p (range_with_len (a + 1 + 1) n) in
    let one : a + 1 ≡ suc a = omega arith in
    one_more (p (a + 1)) (a + 1) a ps (filter (λ v. p (suc v)) (range_with_len (a + 1) n)) (moved_run p (a + 1) n)
    ∙ ap (λ x. length (cond (p x) (a ∷ filter (λ v. p (suc v)) (range_with_len (a + 1) n)) (filter (λ v. p (suc v)) (range_with_len (a + 1) n)))) one
  where
    one_more : (b : Bool) (x y : ℕ) (xs ys : List ℕ) → length xs ≡ length ys → length (cond b (x ∷ xs) xs) ≡ length (cond b (y ∷ ys) ys)
    one_more true x y xs ys e = omega (arith, e)
    one_more false x y xs ys e = e

bit_or_none : (m x : ℕ) (xs : List ℕ) → m < 2 → length (cond (m == 1) (x ∷ xs) xs) ≡ m + length xs
bit_or_none zero x xs h = omega arith
bit_or_none (suc zero) x xs h = omega arith
bit_or_none (suc (suc m)) x xs h = absurd (omega arith)

bits_counted : (k word : ℕ) → word < 2 ^ k → length (filter (part_holds word) (range_with_len 0 k)) ≡ count_ones word
bits_counted zero word h =
    let no_bit : count_ones 0 ≡ 0 = omega (arith, ones_le_self 0) in
    let e : 0 ≡ word = omega arith in
    sym no_bit ∙ ap count_ones e
bits_counted (suc k) word h =
    let rest = filter (part_holds word) (range_with_len 1 k) in
    let half : word / 2 < 2 ^ k = omega (arith, h, pow-suc 2 k) in
    bit_or_none (bit_at word 0) 0 rest (bit_at-lt word 0)
    ∙ ap (λ n. bit_at word 0 + n) (moved_run (part_holds word) 0 k ∙ ap length (run_agrees (λ v. part_holds word (suc v)) (part_holds (word / 2)) 0 k (λ v low high. ap (λ b. b == 1) (bit_at-suc word v))) ∙ bits_counted k (word / 2) half)
    ∙ ap (λ n. n + count_ones (word / 2)) (bit_at_lowest word)
    ∙ sym (ones_step word)

one_kept : (b : Bool) (y : ℕ) (ys zs : List ℕ) → length ys ≤ length zs → length (cond b (y ∷ ys) ys) ≤ suc (length zs)
one_kept true y ys zs h = omega (arith, h)
one_kept false y ys zs h = omega (arith, h)

few_kept : (p : ℕ → Bool) (xs : List ℕ) → length (filter p xs) ≤ length xs
few_kept p [] = omega arith
few_kept p (x ∷ xs) = one_kept (p x) x (filter p xs) xs (few_kept p xs)

-- at most one for each bit
pub few_values : (word : ℕ) → length (part_values word) ≤ 64
unfolding part_values
few_values word = omega (arith, few_kept (part_holds word) (below 64), length-range_with_len 0 64)

pub no_bit_test : (word : ℕ) → (word == 0) ≡ (count_ones word == 0)
no_bit_test word =
    ⊎_elim
    (λ (e : word ≡ 0). eq-eqb word 0 e ∙ sym (eq-eqb (count_ones word) 0 (omega (arith, ones_le_self word))))
    (λ (ne : word ≡ 0 → ⊥). ne_eqb word 0 ne ∙ sym (ne_eqb (count_ones word) 0 (λ e. ne (zero_from_ones word e))))
    (cases_eq word 0)

pub length-part_values : (word : ℕ) → word < 2 ^ 64 → length (part_values word) ≡ count_ones word
unfolding part_values
length-part_values word fits = bits_counted 64 word fits

-- ---- one value, the lowest value

pub values_of_one : (v : ℕ) → v < 64 → part_values (2 ^ v) ≡ v ∷ []
unfolding part_values
values_of_one v small =
    first_kept (part_holds (2 ^ v)) (λ k. false) v 0 64 (omega arith) (omega arith)
    (λ k lt. part_holds-pow v k ∙ ne_eqb v k (λ (e : v ≡ k). absurd (omega arith)))
    (part_holds-pow v v ∙ eq-eqb v v refl)
    (λ k le. refl)
    (λ k lt in_run. part_holds-pow v k ∙ ne_eqb v k (λ (e : v ≡ k). absurd (omega arith)))
    ∙ ap (λ vs. v ∷ vs) (run_of_none 0 64)

-- a word without a value
pub values_without : (word v : ℕ) → v < 64 → part_values (bit_and word (bit_not w64 (2 ^ v))) ≡ filter (λ b. not (b == v)) (part_values word)
values_without word v small =
    values-filter word (bit_and word (bit_not w64 (2 ^ v))) (λ b. not (b == v))
    (λ b in_word. part_holds-and word (bit_not w64 (2 ^ v)) b ∙ ap (λ t. part_holds word b && t) (part_holds-not (2 ^ v) b (pow_below v 64 small) in_word ∙ ap not (part_holds-pow v b ∙ equal_turned v b)))

-- the word in the code, `word & !(1 << v)`
pub values_cleared : (word v : ℕ) → v < 64 → part_values (bit_and word (bit_not w64 (1 * 2 ^ v % 2 ^ 64))) ≡ filter (λ b. not (b == v)) (part_values word)
values_cleared word v small = ap (λ x. part_values (bit_and word (bit_not w64 x))) (one_shl v 64 small) ∙ values_without word v small

-- ---- the lowest value

-- of a word x * (2 * m + 1), with x the power of its lowest value
pred_split : (m x word : ℕ) → 0 < x → word ≡ (2 * m + 1) * x → word - 1 ≡ 2 * m * x + (x - 1)
pred_split m x word pos e =
    let split : (2 * m + 1) * x ≡ 2 * m * x + x = ap (λ k. k * x) (let k : 2 * m + 1 ≡ suc (2 * m) = omega arith in k) ∙ suc-mul (2 * m) x in
    omega (arith, split, e)

record LowestOut (word t : ℕ) : Type 0 where
  here : bit_at (word - 1) t ≡ 0
  above : (v : ℕ) → t < v → bit_at (word - 1) v ≡ bit_at word v

lowest_out : (word t : ℕ) → bit_at word t ≡ 1 → ((v : ℕ) → v < t → bit_at word v ≡ 0) → LowestOut word t
lowest_out word t at none_below =
    let x = 2 ^ t in
    let pos : 0 < x = pow_pos t in
    let high = word / x in
    let m = high / 2 in
    let low_zero : word % x ≡ 0 = same_from_bits_below t (word % x) 0 (mod_below word x pos) pos
    (λ v lt. sym (bit_at_cat_low high t (word % x) v lt) ∙ ap (λ n. bit_at n v) (shr_split word t) ∙ none_below v lt ∙ sym (bit_at-zero v)) in
    let odd : high ≡ 2 * m + 1 = omega (arith, at) in
    let whole : word ≡ (2 * m + 1) * x = sym (shr_split word t) ∙ ap (λ n. high * x + n) low_zero ∙ (let k : high * x + 0 ≡ high * x = omega arith in k) ∙ ap (λ n. n * x) odd in
    let less : word - 1 ≡ 2 * m * x + (x - 1) = pred_split m x word pos whole in
    let short : x - 1 < x = omega (arith, pos) in
    let lower = λ (v : ℕ) (le : t ≤ v). ap (λ n. bit_at n v) less ∙ bit_at_cat_high (2 * m) t (x - 1) v short le in
    let upper = λ (v : ℕ) (le : t ≤ v). ap (λ n. bit_at n v) (whole ∙ (let k : (2 * m + 1) * x ≡ (2 * m + 1) * x + 0 = omega arith in k)) ∙ bit_at_cat_high (2 * m + 1) t 0 v pos le in
    record {
      here = lower t (omega arith) ∙ ap (bit_at (2 * m)) (let k : t - t ≡ 0 = omega arith in k) ∙ bit_at_lowest (2 * m) ∙ omega arith;
      above = λ v lt.
          let k : v - t ≡ suc (v - t - 1) = omega (arith, lt) in
          let even_half : 2 * m / 2 ≡ m = omega arith in
          let odd_half : (2 * m + 1) / 2 ≡ m = omega arith in
          lower v (omega (arith, lt)) ∙ ap (bit_at (2 * m)) k ∙ bit_at-suc (2 * m) (v - t - 1) ∙ ap (λ n. bit_at n (v - t - 1)) (even_half ∙ sym odd_half) ∙ sym (bit_at-suc (2 * m + 1) (v - t - 1)) ∙ sym (ap (bit_at (2 * m + 1)) k) ∙ sym (upper v (omega (arith, lt)));
    }

-- the lowest value stands first, and `word & (word - 1)` has the others
pub values_from_lowest : (word : ℕ) → 0 < word → word < 2 ^ 64 → part_values word ≡ trailing_zeros w64 word ∷ part_values (bit_and word (word - 1))
unfolding part_values
values_from_lowest word pos fits =
    let t = trailing_zeros w64 word in
    let found = bit_at-trailing_zeros w64 word pos fits in
    let out = lowest_out word t found.1 found.2 in
    first_kept (part_holds word) (part_holds (bit_and word (word - 1))) t 0 64 (omega arith) found.0
    (λ v lt. ap (λ b. b == 1) (found.2 v lt))
    (eq-eqb (bit_at word t) 1 found.1)
    (λ v le. part_holds-and word (word - 1) v ∙ ⊎_elim
    (λ (e : v ≡ t). and_right (part_holds word v) (part_holds (word - 1) v) (ap (λ k. part_holds (word - 1) k) e ∙ ap (λ b. b == 1) out.here))
    (λ (ne : v ≡ t → ⊥). and_left (part_holds word v) (part_holds (word - 1) v) (ap (λ b. b == 1) (found.2 v (omega (arith, ne, le)))))
    (cases_eq v t))
    (λ v lt in_word. sym (part_holds-and word (word - 1) v ∙ ap (λ b. part_holds word v && (b == 1)) (out.above v lt) ∙ and_same (part_holds word v)))
  where
    and_same : (b : Bool) → (b && b) ≡ b
    and_same true = refl
    and_same false = refl

-- ---- values that are not there

pub has_large : (word v : ℕ) → (v < 64 → ⊥) → has (part_values word) v ≡ false
has_large word v large = none_of (part_values word) v (recursion_from_All (λ x. x < 64) (part_values word) (values_small word)) large
  where
    none_of : (xs : List ℕ) (v : ℕ) → AllByRecursion (λ x. x < 64) xs → (v < 64 → ⊥) → has xs v ≡ false
    none_of [] v h large = refl
    none_of (x ∷ xs) v h large = or_from (x == v) (has xs v) (ne_eqb x v (λ (e : x ≡ v). large (omega (arith, h.0, e)))) (none_of xs v h.1 large)

-- without a value that isn't there, nothing changes
pub filter_nothing : (xs : List ℕ) (a : ℕ) → has xs a ≡ false → filter (λ b. not (b == a)) xs ≡ xs
filter_nothing [] a h = refl
filter_nothing (x ∷ xs) a h =
    let parts = or_parts (x == a) (has xs a) h in
    ap (λ b. cond (not b) (x ∷ filter (λ b. not (b == a)) xs) (filter (λ b. not (b == a)) xs)) parts.0 ∙ ap (λ ys. x ∷ ys) (filter_nothing xs a parts.1)
  where
    or_parts : (a b : Bool) → (a || b) ≡ false → (a ≡ false) × (b ≡ false)
    or_parts true b h = absurd (let bad : ⊥ = cc in bad)
    or_parts false b h = (refl, h)

-- ---- the operations

pub some_bits : (word : ℕ) → 0 < length (part_values word) → 0 < word
some_bits zero some = absurd (let none : ⊥ = omega (arith, some, ap length values_of_nothing) in none)
some_bits (suc n) some = omega arith

pub values_met : (x y : ℕ) → part_values (bit_and x y) ≡ filter (has (part_values y)) (part_values x)
values_met x y = values-filter x (bit_and x y) (has (part_values y)) (λ v small. part_holds-and x y v ∙ ap (λ b. part_holds x v && b) (sym (has-part_values y v small)))

pub values_lacked : (x y : ℕ) → y < 2 ^ 64 → part_values (bit_and x (bit_not w64 y)) ≡ filter (λ v. not (has (part_values y) v)) (part_values x)
values_lacked x y fits =
    values-filter x (bit_and x (bit_not w64 y)) (λ v. not (has (part_values y) v))
    (λ v small. part_holds-and x (bit_not w64 y) v ∙ ap (λ b. part_holds x v && b) (part_holds-not y v fits small ∙ ap not (sym (has-part_values y v small))))

pub value_alone : (v : ℕ) → v < 64 → part_values (1 * 2 ^ v % 2 ^ 64) ≡ v ∷ []
value_alone v small = ap part_values (one_shl v 64 small) ∙ values_of_one v small

pub first_value : (word : ℕ) → word < 2 ^ 64 → 0 < length (part_values word) → trailing_zeros w64 word ≡ slice_index (part_values word) 0
first_value word fits some = sym (ap (λ vs. slice_index vs 0) (values_from_lowest word (some_bits word some) fits))

pub later_values : (word : ℕ) → word < 2 ^ 64 → 0 < length (part_values word) → part_values word ≡ slice_index (part_values word) 0 ∷ part_values (bit_and word (word - 1))
later_values word fits some = values_from_lowest word (some_bits word some) fits ∙ ap (λ v. v ∷ part_values (bit_and word (word - 1))) (first_value word fits some)

pub first_small : (word : ℕ) → 0 < length (part_values word) → slice_index (part_values word) 0 < 64
first_small word some = by_values (part_values word) (recursion_from_All (λ x. x < 64) (part_values word) (values_small word)) some
  where
    by_values : (xs : List ℕ) → AllByRecursion (λ x. x < 64) xs → 0 < length xs → slice_index xs 0 < 64
    by_values [] all some = absurd (let none : ⊥ = omega (arith, some) in none)
    by_values (x ∷ xs) all some = all.0
