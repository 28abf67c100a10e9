-- Lists of small numbers as one number each.
use Rattle.std.proofs.Common.{◌≡◌, ℕ, zero, suc, ◌+◌, ◌^◌, ◌==◌, ◌<◌, ◌≤◌, Bool, true, false, List, [], ◌∷◌, map, drop, length, get_or, slice_index, refl, sym, ap, ◌∙◌, subst, inl, inr, arith, drop-cons, length-drop, Fits, w8}
use Rattle.std.specs.List.{AllByRecursion, remove}
use Rattle.std.proofs.lemmas.Bool.{cases_Bool, eqb-true, eqb-false, eq-eqb, ne_eqb}
use Rattle.std.proofs.lemmas.List.Elements.{recursion_from_All}
use Rattle.wf_model.specs.Simplex.{Simplex, processes_of, values_of}
use Rattle.wf_model.specs.Task.{IsTaskSimplex}
use Rattle.wf_tree_model.specs.Counting.Rules.{same_numbers}
use Rattle.wf_tree_steps.specs.Balance.Keys.{but, digits_code, label}

abbrev pub AreDigits : List ℕ → Type 0
AreDigits xs = AllByRecursion (λ x. x < 2047) xs

-- equal codes are those of equal lists
pub same_digits : (xs ys : List ℕ) → AreDigits xs → AreDigits ys → (digits_code xs == digits_code ys) ≡ same_numbers xs ys
same_digits [] [] sx sy = refl
same_digits [] (y ∷ ys) sx sy = ne_eqb 0 (digits_code (y ∷ ys)) (omega arith)
same_digits (x ∷ xs) [] sx sy = ne_eqb (digits_code (x ∷ xs)) 0 (omega arith)
same_digits (x ∷ xs) (y ∷ ys) sx sy =
    let rest = same_digits xs ys sx.1 sy.1 in
    elim (cases_Bool (x == y)) [
      | inl first ↦
          rw first
          (elim (cases_Bool (digits_code xs == digits_code ys)) [
            | inl second ↦ eq-eqb _ _ (let e = eqb-true x y first in let d = eqb-true (digits_code xs) (digits_code ys) second in omega (arith, e, d)) ∙ (rw second at rest)
            | inr other ↦ ne_eqb _ _ (let ne = eqb-false (digits_code xs) (digits_code ys) other in let e = eqb-true x y first in omega (arith, e, ne)) ∙ (rw other at rest)
          ])
      | inr other ↦ rw other (ne_eqb _ _ (let ne = eqb-false x y other in let a = sx.0 in let b = sy.0 in omega (arith, ne, a, b)))
    ]

-- ---- bounds

pub few_digits : (xs : List ℕ) → AreDigits xs → length xs ≤ 3 → digits_code xs < 2 ^ 33
few_digits [] small few = omega arith
few_digits (x ∷ []) small few = let a = small.0 in omega (arith, a)
few_digits (x ∷ y ∷ []) small few = let a = small.0 in let b = small.1.0 in omega (arith, a, b)
few_digits (x ∷ y ∷ z ∷ []) small few = let a = small.0 in let b = small.1.0 in let c = small.1.1.0 in omega (arith, a, b, c)
few_digits (x ∷ y ∷ z ∷ w ∷ rest) small few = absurd (let bad : ⊥ = omega (arith, few) in bad)

pub four_digits : (xs : List ℕ) → AreDigits xs → length xs ≤ 4 → digits_code xs < 2 ^ 44
four_digits [] small few = omega arith
four_digits (x ∷ xs) small few = let a = small.0 in let b = few_digits xs small.1 (omega (arith, few)) in omega (arith, a, b)

-- ---- all but one

pub but_small : (place skipped : ℕ) (xs : List ℕ) → AreDigits xs → AreDigits (but place skipped xs)
but_small place skipped [] h = tt
but_small place skipped (x ∷ xs) h =
    let rest = but_small (suc place) skipped xs h.1 in
    elim (cases_Bool (place == skipped)) [
      | inl here ↦ rw here rest
      | inr away ↦ rw away (h.0, rest)
    ]

pub but_fewer : (place skipped : ℕ) (xs : List ℕ) → length (but place skipped xs) ≤ length xs
but_fewer place skipped [] = omega arith
but_fewer place skipped (x ∷ xs) =
    let rest = but_fewer (suc place) skipped xs in
    elim (cases_Bool (place == skipped)) [
      | inl here ↦ rw here (omega (arith, rest))
      | inr away ↦ rw away (omega (arith, rest))
    ]

but_kept : (place skipped : ℕ) (xs : List ℕ) → skipped < place → but place skipped xs ≡ xs
but_kept place skipped [] past = refl
but_kept place skipped (x ∷ xs) past =
    rw (ne_eqb place skipped (λ e. absurd (let bad : ⊥ = omega (arith, e, past) in bad))) (ap (λ ys. x ∷ ys) (but_kept (suc place) skipped xs (omega (arith, past))))

removed : (place i skipped : ℕ) (xs : List ℕ) → skipped ≡ place + i → but place skipped xs ≡ remove xs i
removed place zero skipped [] e = refl
removed place (suc i) skipped [] e = refl
removed place zero skipped (x ∷ xs) e =
    let same : place ≡ skipped = omega (arith, e) in
    rw (eq-eqb place skipped same) (but_kept (suc place) skipped xs (omega (arith, same)))
removed place (suc i) skipped (x ∷ xs) e =
    rw (ne_eqb place skipped (λ d. absurd (let bad : ⊥ = omega (arith, e, d) in bad))) (ap (λ ys. x ∷ ys) (removed (suc place) i skipped xs (omega (arith, e))))

pub but_removed : (i : ℕ) (xs : List ℕ) → but 0 i xs ≡ remove xs i
but_removed i xs = removed 0 i i xs (omega arith)

remove_none : (xs : List ℕ) (i : ℕ) → length xs ≤ i → remove xs i ≡ xs
remove_none [] zero past = refl
remove_none [] (suc i) past = refl
remove_none (x ∷ xs) zero past = absurd (let bad : ⊥ = omega (arith, past) in bad)
remove_none (x ∷ xs) (suc i) past = ap (λ ys. x ∷ ys) (remove_none xs i (omega (arith, past)))

pub but_none : (xs : List ℕ) (i : ℕ) → length xs ≤ i → but 0 i xs ≡ xs
but_none xs i past = but_removed i xs ∙ remove_none xs i past

-- ---- the labels of a simplex

pub digits_from : (symmetric : Bool) (s : Simplex) → AllByRecursion (λ p. p < 4) (processes_of s) → AllByRecursion (λ x. x ≤ 255) (values_of s) → AreDigits (map (label symmetric) s)
digits_from symmetric [] ps vs = tt
digits_from true (v ∷ s) ps vs = (let a = vs.0 in omega (arith, a), digits_from true s ps.1 vs.1)
digits_from false (v ∷ s) ps vs = (let a = vs.0 in let b = ps.0 in omega (arith, a, b), digits_from false s ps.1 vs.1)

pub label_digits : (symmetric : Bool) (s : Simplex) → IsTaskSimplex s → AreDigits (map (label symmetric) s)
label_digits symmetric s h =
    digits_from symmetric s (recursion_from_All (λ p. p < 4) (processes_of s) h.processes) (recursion_from_All (λ x. x ≤ 255) (values_of s) h.values)

pub label_there : (symmetric : Bool) (s : Simplex) (i : ℕ) → i < length s → label symmetric (get_or (processes_of s) i 0, get_or (values_of s) i 0) ≡ slice_index (map (label symmetric) s) i
label_there symmetric [] i inside = absurd (let bad : ⊥ = omega (arith, inside) in bad)
label_there symmetric (v ∷ s) zero inside = refl
label_there symmetric (v ∷ s) (suc i) inside = label_there symmetric s i (omega (arith, inside))

-- ---- the later ones

small_dropped : (P : ℕ → Type 0) (n : ℕ) (xs : List ℕ) → AllByRecursion P xs → AllByRecursion P (drop n xs)
small_dropped P zero xs h = h
small_dropped P (suc n) [] h = tt
small_dropped P (suc n) (x ∷ xs) h = small_dropped P n xs h.1

-- what the later ones have fits with one more
pub room : (xs : List ℕ) (place skipped code : ℕ) → 0 < place → AreDigits xs → length xs ≤ 4 → code ≡ digits_code (but place skipped (drop place xs)) → code < 2 ^ 33
room xs place skipped code some small few same =
    let left = length-drop place xs in
    let fewer = but_fewer place skipped (drop place xs) in
    subst (λ n. n < 2 ^ 33) (sym same) (few_digits (but place skipped (drop place xs)) (but_small place skipped (drop place xs) (small_dropped (λ x. x < 2047) place xs small)) (omega (arith, few, some, left, fewer)))

-- the skipped one
pub but_skipped : (xs : List ℕ) (next place skipped : ℕ) → next ≡ suc place → place < length xs → place ≡ skipped → but place skipped (drop place xs) ≡ but next skipped (drop next xs)
but_skipped xs next place skipped e inside here =
    ap (but place skipped) (drop-cons xs place 0 inside)
    ∙ (rw (eq-eqb place skipped here) refl)
    ∙ ap (λ n. but n skipped (drop n xs)) (sym e)

pub last_room : (xs : List ℕ) (place skipped code : ℕ) → AreDigits xs → length xs ≤ 4 → code ≡ digits_code (but place skipped (drop place xs)) → code < 2 ^ 44
last_room xs place skipped code small few same =
    let left = length-drop place xs in
    let fewer = but_fewer place skipped (drop place xs) in
    subst (λ n. n < 2 ^ 44) (sym same) (four_digits (but place skipped (drop place xs)) (but_small place skipped (drop place xs) (small_dropped (λ x. x < 2047) place xs small)) (omega (arith, few, left, fewer)))

-- ---- bytes

pub byte_digits : (xs : List ℕ) → ((i : ℕ) → Fits w8 (get_or xs i 0)) → AreDigits xs
byte_digits [] h = tt
byte_digits (x ∷ xs) h = (let small = (h 0).fits in omega (arith, small), byte_digits xs (λ i. h (suc i)))
