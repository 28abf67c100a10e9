-- Weights under the keys of a tuple are the weights where it counts.
use Rattle.std.proofs.Common.{◌≡◌, ℕ, zero, suc, ◌+◌, ◌*◌, ◌%◌, ◌==◌, ◌&&◌, ◌<◌, ◌≤◌, Bool, true, false, cond, List, [], ◌∷◌, map, length, refl, sym, ap, ap₂, ◌∙◌, subst, inl, inr, arith}
use Rattle.std.specs.List.{AllByRecursion, remove}
use Rattle.std.proofs.Math.Nat.{add-mod, mod-mod}
use Rattle.std.proofs.lemmas.Bool.{and_parts, cases_Bool, eq-eqb, eqb-true, eqb-false, false≢true, ne_eqb}
use Rattle.std.proofs.lemmas.List.Sums.{sum_by-cons}
use Rattle.wf_model.specs.Simplex.{Simplex, Vertex, same_vertex}
use Rattle.wf_model.specs.Task.{Task, Tuple}
use Rattle.wf_tree_model.specs.Counting.Rules.{same_numbers}
use Rattle.wf_tree_model.specs.Alike.{are_alike, same_point}
use Rattle.wf_tree_model.specs.Balance.{Multiplier, counts_nothing, counts_with, counts_without, input_of, weight_with, weight_without}
use Rattle.wf_tree_steps.specs.Balance.Keys.{digits_code, is_settled, key, key_with, key_without, label, labels, sum_below, weight_at, weight_of, weight_under}
use Rattle.wf_tree_steps.proofs.OfBalance.Digits.{AreDigits, but_removed, but_small, but_fewer, four_digits, same_digits}

-- ---- simplices with small values

abbrev pub IsSmall : Simplex → Type 0
IsSmall s = AllByRecursion (λ v. v.1 < 256) s

numbers_apart : (a b c d : ℕ) → b < 256 → d < 256 → (a * 256 + b == c * 256 + d) ≡ ((a == c) && (b == d))
numbers_apart a b c d sb sd =
    elim (cases_Bool (a == c)) [
      | inl first ↦
          rw first
          (elim (cases_Bool (b == d)) [
            | inl second ↦ eq-eqb _ _ (let e = eqb-true a c first in let f = eqb-true b d second in omega (arith, e, f)) ∙ sym second
            | inr other ↦ ne_eqb _ _ (let ne = eqb-false b d other in let e = eqb-true a c first in omega (arith, e, ne)) ∙ sym other
          ])
      | inr other ↦ rw other (ne_eqb _ _ (let ne = eqb-false a c other in omega (arith, ne, sb, sd)))
    ]

label_same : (symmetric : Bool) (v w : Vertex) → v.1 < 256 → w.1 < 256 → (label symmetric v == label symmetric w) ≡ cond symmetric (v.1 == w.1) (same_vertex v w)
label_same true v w sv sw = refl
label_same false v w sv sw = numbers_apart v.0 v.1 w.0 w.1 sv sw

alike_long : (t : Task) (s u : Simplex) → are_alike t s u ≡ true → length s ≡ length u
alike_long t [] [] h = refl
alike_long t [] (b ∷ u) h = absurd (false≢true h)
alike_long t (a ∷ s) [] h = absurd (false≢true h)
alike_long t (a ∷ s) (b ∷ u) h = ap suc (alike_long t s u (and_parts (same_point t a b) (are_alike t s u) h).1)

labels_alike : (t : Task) (s u : Simplex) → IsSmall s → IsSmall u → same_numbers (labels t s) (labels t u) ≡ are_alike t s u
labels_alike t [] [] hs hu = refl
labels_alike t [] (w ∷ u) hs hu = refl
labels_alike t (v ∷ s) [] hs hu = refl
labels_alike t (v ∷ s) (w ∷ u) hs hu = ap₂ (λ a b. a && b) (label_same t.symmetric v w hs.0 hu.0) (labels_alike t s u hs.1 hu.1)

-- ---- keys

pairs_apart : (a b c d : ℕ) → b < 18446744073709551616 → d < 18446744073709551616 → (a * 18446744073709551616 + b == c * 18446744073709551616 + d) ≡ ((a == c) && (b == d))
pairs_apart a b c d sb sd =
    elim (cases_Bool (a == c)) [
      | inl first ↦
          rw first
          (elim (cases_Bool (b == d)) [
            | inl second ↦ eq-eqb _ _ (let e = eqb-true a c first in let f = eqb-true b d second in omega (arith, e, f)) ∙ sym second
            | inr other ↦ ne_eqb _ _ (let ne = eqb-false b d other in let e = eqb-true a c first in omega (arith, e, ne)) ∙ sym other
          ])
      | inr other ↦ rw other (ne_eqb _ _ (let ne = eqb-false a c other in omega (arith, ne, sb, sd)))
    ]

-- values of few participants
pub record IsShort (values : List ℕ) : Type 0 where
  pub digits : AreDigits values
  pub few : length values ≤ 4

keys_same : (p q : ℕ) (xs ys values others : List ℕ) → p < 2047 → q < 2047 → AreDigits xs → AreDigits ys → IsShort values → IsShort others →
    (key p xs values == key q ys others) ≡ (((p == q) && same_numbers xs ys) && same_numbers values others)
keys_same p q xs ys values others sp sq sx sy sv so =
    let a = four_digits values sv.digits sv.few in
    let b = four_digits others so.digits so.few in
    pairs_apart (digits_code (p ∷ xs)) (digits_code values) (digits_code (q ∷ ys)) (digits_code others) (omega (arith, a)) (omega (arith, b))
    ∙ ap₂ (λ a b. a && b) (same_digits (p ∷ xs) (q ∷ ys) (sp, sx) (sq, sy)) (same_digits values others sv.digits so.digits)

pub remove_map : {X Y : Type 0} (f : X → Y) (i : ℕ) (xs : List X) → remove (map f xs) i ≡ map f (remove xs i)
remove_map f zero [] = refl
remove_map f (suc i) [] = refl
remove_map f zero (x ∷ xs) = refl
remove_map f (suc i) (x ∷ xs) = ap (λ ys. f x ∷ ys) (remove_map f i xs)

-- ---- sums over places

sum_same : (f g : ℕ → ℕ) (n : ℕ) → ((i : ℕ) → i < n → f i ≡ g i) → sum_below f n ≡ sum_below g n
sum_same f g zero h = refl
sum_same f g (suc n) h = ap₂ (λ a b. a + b) (sum_same f g n (λ i low. h i (omega (arith, low)))) (h n (omega arith))

sum_none : (f : ℕ → ℕ) (n : ℕ) → ((i : ℕ) → i < n → f i ≡ 0) → sum_below f n ≡ 0
sum_none f zero h = refl
sum_none f (suc n) h = let a = sum_none f n (λ i low. h i (omega (arith, low))) in let b = h n (omega arith) in omega (arith, a, b)

sum_added : (f g : ℕ → ℕ) (n : ℕ) → sum_below (λ i. f i + g i) n ≡ sum_below f n + sum_below g n
sum_added f g zero = refl
sum_added f g (suc n) = let e = sum_added f g n in omega (arith, e)

both_same : (k a b c d : ℕ) → a % k ≡ b % k → c % k ≡ d % k → (a + c) % k ≡ (b + d) % k
both_same k a b c d p q = add-mod a c k ∙ ap (λ x. (x + c % k) % k) p ∙ ap (λ y. (b % k + y) % k) q ∙ sym (add-mod b d k)

sum_modulo : (k : ℕ) (f g : ℕ → ℕ) (n : ℕ) → ((i : ℕ) → i < n → f i % k ≡ g i % k) → sum_below f n % k ≡ sum_below g n % k
sum_modulo k f g zero h = refl
sum_modulo k f g (suc n) h = both_same k (sum_below f n) (sum_below g n) (f n) (g n) (sum_modulo k f g n (λ i low. h i (omega (arith, low)))) (h n (omega arith))

-- one place counts
picked : (p w n : ℕ) (b : Bool) (test : ℕ → Bool) → p < n → sum_below (λ i. cond (((p == i) && b) && test i) w 0) n ≡ cond (b && test p) w 0
picked p w zero b test inside = absurd (let bad : ⊥ = omega (arith, inside) in bad)
picked p w (suc n) b test inside =
    let f = λ (i : ℕ). cond (((p == i) && b) && test i) w 0 in
    elim (cases_Bool (p == n)) [
      | inl last ↦
          let is = eqb-true p n last in
          let before = sum_none f n (λ i low. ap (λ c. cond ((c && b) && test i) w 0) (ne_eqb p i (λ e. absurd (let bad : ⊥ = omega (arith, is, e, low) in bad)))) in
          let here : f n ≡ cond (b && test p) w 0 = ap (λ c. cond ((c && b) && test n) w 0) last ∙ ap (λ i. cond (b && test i) w 0) (sym is) in
          omega (arith, before, here)
      | inr other ↦
          let ne = eqb-false p n other in
          let before = picked p w n b test (omega (arith, inside, ne)) in
          let here : f n ≡ 0 = ap (λ c. cond ((c && b) && test n) w 0) other in
          omega (arith, before, here)
    ]

-- ---- one multiplier

-- what the keys of a multiplier need
pub record IsKeyed (t : Task) (x : Multiplier) : Type 0 where
  pub small : IsSmall (input_of t x)
  pub digits : AreDigits (labels t (input_of t x))
  pub few : length (input_of t x) ≤ 4
  pub inside : x.place < length (input_of t x)
  pub others : IsShort x.others

small_removed : (s : Simplex) (i : ℕ) → IsSmall s → IsSmall (remove s i)
small_removed [] zero h = tt
small_removed [] (suc i) h = tt
small_removed (v ∷ s) zero h = h.1
small_removed (v ∷ s) (suc i) h = (h.0, small_removed s i h.1)

digits_removed : (xs : List ℕ) (i : ℕ) → AreDigits xs → AreDigits (remove xs i)
digits_removed xs i h = subst AreDigits (but_removed i xs) (but_small 0 i xs h)

short_removed : (xs : List ℕ) (i : ℕ) → IsShort xs → IsShort (remove xs i)
short_removed xs i h = record {
  digits = digits_removed xs i h.digits;
  few = (let a = but_fewer 0 i xs in let e = ap length (but_removed i xs) in let f = h.few in omega (arith, a, e, f));
}

module _ (t : Task) (s : Simplex) (tuple : Tuple) (small : IsSmall s) (digits : AreDigits (labels t s)) (four : length s ≤ 4) (short : IsShort tuple) (long : length tuple ≡ length s) where
  face_digits : (x : Multiplier) → IsKeyed t x → AreDigits (labels t (remove (input_of t x) x.place))
  face_digits x is = subst AreDigits (remove_map (label t.symmetric) x.place (input_of t x)) (digits_removed (labels t (input_of t x)) x.place is.digits)

  weight_whole : (x : Multiplier) → IsKeyed t x → weight_of t (key 4 (labels t s) tuple) x ≡ cond (counts_without t s tuple x) x.weight 0
  weight_whole x is =
      let face = remove (input_of t x) x.place in
      let a = is.inside in
      let b = is.few in
      let p : x.place < 4 = omega (arith, a, b) in
      let with' = keys_same x.place 4 (labels t (input_of t x)) (labels t s) x.others tuple (omega (arith, p)) (omega arith) is.digits digits is.others short in
      let never : (x.place == 4) ≡ false = ne_eqb x.place 4 (λ e. absurd (let bad : ⊥ = omega (arith, p, e) in bad)) in
      let without' = keys_same 4 4 (labels t face) (labels t s) x.others tuple (omega arith) (omega arith) (face_digits x is) digits is.others short in
      let nothing : cond (key_with t x == key 4 (labels t s) tuple) x.weight 0 ≡ 0 = ap (λ c. cond c x.weight 0) (with' ∙ ap (λ c. (c && same_numbers (labels t (input_of t x)) (labels t s)) && same_numbers x.others tuple) never) in
      let all : cond (key_without t x == key 4 (labels t s) tuple) x.weight 0 ≡ cond (counts_without t s tuple x) x.weight 0 =
      ap (λ c. cond c x.weight 0) (without' ∙ ap (λ c. c && same_numbers x.others tuple) (labels_alike t face s (small_removed (input_of t x) x.place is.small) small)) in
      omega (arith, nothing, all)

  abbrev at : ℕ → ℕ
  at i = key i (labels t s) (remove tuple i)

  weight_one : (x : Multiplier) → IsKeyed t x → (i : ℕ) → i < length s → weight_of t (at i) x ≡ cond (((x.place == i) && are_alike t (input_of t x) s) && same_numbers x.others (remove tuple i)) x.weight 0
  weight_one x is i low =
      let face = remove (input_of t x) x.place in
      let a = is.inside in
      let b = is.few in
      let others = remove tuple i in
      let with' = keys_same x.place i (labels t (input_of t x)) (labels t s) x.others others (omega (arith, a, b)) (omega (arith, low, four)) is.digits digits is.others (short_removed tuple i short) in
      let never : (4 == i) ≡ false = ne_eqb 4 i (λ e. absurd (let bad : ⊥ = omega (arith, low, four, e) in bad)) in
      let without' = keys_same 4 i (labels t face) (labels t s) x.others others (omega arith) (omega (arith, low, four)) (face_digits x is) digits is.others (short_removed tuple i short) in
      let nothing : cond (key_without t x == at i) x.weight 0 ≡ 0 = ap (λ c. cond c x.weight 0) (without' ∙ ap (λ c. (c && same_numbers (labels t face) (labels t s)) && same_numbers x.others others) never) in
      let all : cond (key_with t x == at i) x.weight 0 ≡ cond (((x.place == i) && are_alike t (input_of t x) s) && same_numbers x.others others) x.weight 0 =
      ap (λ c. cond c x.weight 0) (with' ∙ ap (λ c. ((x.place == i) && c) && same_numbers x.others others) (labels_alike t (input_of t x) s is.small small)) in
      omega (arith, nothing, all)

  weight_places : (x : Multiplier) → IsKeyed t x → sum_below (λ i. weight_of t (at i) x) (length s) ≡ cond (counts_with t s tuple x) x.weight 0
  weight_places x is =
      sum_same (λ i. weight_of t (at i) x) (λ i. cond (((x.place == i) && are_alike t (input_of t x) s) && same_numbers x.others (remove tuple i)) x.weight 0) (length s) (weight_one x is)
      ∙ elim (cases_Bool (are_alike t (input_of t x) s)) [
        | inl same ↦ picked x.place x.weight (length s) (are_alike t (input_of t x) s) (λ i. same_numbers x.others (remove tuple i)) (let a = is.inside in let e = alike_long t (input_of t x) s same in omega (arith, a, e))
        | inr apart ↦
            sum_none (λ i. cond (((x.place == i) && are_alike t (input_of t x) s) && same_numbers x.others (remove tuple i)) x.weight 0) (length s)
            (λ i low. ap (λ c. cond (((x.place == i) && c) && same_numbers x.others (remove tuple i)) x.weight 0) apart ∙ none (x.place == i) (same_numbers x.others (remove tuple i)))
            ∙ sym (ap (λ c. cond (c && same_numbers x.others (remove tuple x.place)) x.weight 0) apart)
      ]
    where
      none : (a b : Bool) → cond ((a && false) && b) x.weight 0 ≡ 0
      none true b = refl
      none false b = refl

  -- ---- all of them

  all_whole : (xs : List Multiplier) → AllByRecursion (IsKeyed t) xs → weight_under t xs (key 4 (labels t s) tuple) ≡ weight_without t xs s tuple
  all_whole [] h = refl
  all_whole (x ∷ xs) h =
      sum_by-cons (weight_of t (key 4 (labels t s) tuple)) x xs
      ∙ ap₂ (λ a b. a + b) (weight_whole x h.0) (all_whole xs h.1)
      ∙ sym (sum_by-cons (λ y. cond (counts_without t s tuple y) y.weight 0) x xs)

  all_places : (xs : List Multiplier) → AllByRecursion (IsKeyed t) xs → sum_below (λ i. weight_under t xs (at i)) (length s) ≡ weight_with t xs s tuple
  all_places [] h = sum_none (λ i. weight_under t [] (at i)) (length s) (λ i low. refl)
  all_places (x ∷ xs) h =
      sum_same (λ i. weight_under t (x ∷ xs) (at i)) (λ i. weight_of t (at i) x + weight_under t xs (at i)) (length s) (λ i low. sum_by-cons (weight_of t (at i)) x xs)
      ∙ sum_added (λ i. weight_of t (at i) x) (λ i. weight_under t xs (at i)) (length s)
      ∙ ap₂ (λ a b. a + b) (weight_places x h.0) (all_places xs h.1)
      ∙ sym (sum_by-cons (λ y. cond (counts_with t s tuple y) y.weight 0) x xs)

  -- the test of the code is that of the definitions
  pub settled_is : (weights : ℕ → ℕ) (modulus : ℕ) (xs : List Multiplier) → AllByRecursion (IsKeyed t) xs → ((q : ℕ) → weights q ≡ weight_under t xs q % modulus) →
      is_settled weights modulus (digits_code (labels t s)) tuple ≡ counts_nothing t modulus xs s tuple
  settled_is weights modulus xs keyed are =
      ap₂ (λ a b. a == b)
      (ap (λ n. sum_below (weight_at weights (digits_code (labels t s)) tuple) n % modulus) long
      ∙ sum_modulo modulus (weight_at weights (digits_code (labels t s)) tuple) (λ i. weight_under t xs (at i)) (length s) (λ i low. ap (λ n. n % modulus) (are (at i)) ∙ mod-mod (weight_under t xs (at i)) modulus)
      ∙ ap (λ n. n % modulus) (all_places xs keyed))
      (ap (λ n. n % modulus) (are (key 4 (labels t s) tuple)) ∙ mod-mod (weight_under t xs (key 4 (labels t s) tuple)) modulus ∙ ap (λ n. n % modulus) (all_whole xs keyed))
