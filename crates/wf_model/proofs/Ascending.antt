-- Ascending lists of numbers, and lists put in order.
use Rattle.std.proofs.Common.{◌≡◌, ℕ, ◌<◌, ◌==◌, Bool, true, false, nat_lt, List, [], ◌∷◌, filter, sym, refl, inl, inr, arith, ltb-true, eqb-true, eq-eqb}
use Rattle.std.specs.List.{AllByRecursion}
use Rattle.std.specs.Ordering.{nat_cmp}
use Rattle.std.proofs.lemmas.Bool.{cases_Bool, and_from, and_parts, or_left, or_right, or_cases, lt-ltb, ltb-false, false≢true}
use Rattle.wf_model.specs.Lists.{has, with_element, in_order}
use Rattle.wf_model.specs.Simplex.{is_ascending}
use Rattle.wf_model.proofs.MapsAreSolutions.{weaker}
use Rattle.wf_model.proofs.Headline.{each_filter}

-- each number is below all later ones
abbrev pub Ascends : List ℕ → Type 0
Ascends [] = Unit {0}
Ascends (x ∷ xs) = AllByRecursion (λ y. x < y) xs × Ascends xs

pub ascends_from : (xs : List ℕ) → is_ascending xs ≡ true → Ascends xs
ascends_from [] h = tt
ascends_from (x ∷ []) h = (tt, tt)
ascends_from (x ∷ y ∷ ys) h =
    let parts = and_parts (nat_lt x y) (is_ascending (y ∷ ys)) h in
    let low : x < y = ltb-true x y parts.0 in
    let rest = ascends_from (y ∷ ys) parts.1 in
    ((low, weaker (λ z. y < z) (λ z. x < z) (λ z k. omega (arith, low, k)) ys rest.0), rest)

pub is_ascending_from : (xs : List ℕ) → Ascends xs → is_ascending xs ≡ true
is_ascending_from [] h = refl
is_ascending_from (x ∷ []) h = refl
is_ascending_from (x ∷ y ∷ ys) h = and_from _ _ (lt-ltb x y h.0.0) (is_ascending_from (y ∷ ys) h.1)

pub ascends_filter : (test : ℕ → Bool) (xs : List ℕ) → Ascends xs → Ascends (filter test xs)
ascends_filter test [] h = tt
ascends_filter test (x ∷ xs) h =
    elim (cases_Bool (test x)) [
      | inl pass ↦ rw pass (each_filter (λ y. x < y) test xs h.0, ascends_filter test xs h.1)
      | inr fail ↦ rw fail (ascends_filter test xs h.1)
    ]

-- what holds of a number and of a list's, holds of the list with the number in its place
each_with : (P : ℕ → Type 0) (x : ℕ) (ys : List ℕ) → P x → AllByRecursion P ys → AllByRecursion P (with_element nat_cmp x ys)
each_with P x [] p h = (p, tt)
each_with P x (y ∷ ys) p h =
    elim (cases_Bool (nat_lt x y)) [
      | inl less ↦ rw less (p, h)
      | inr more ↦ rw more (elim (cases_Bool (x == y)) [ inl same ↦ rw same h | inr other ↦ rw other (h.0, each_with P x ys p h.1) ])
    ]

ascends_with : (x : ℕ) (ys : List ℕ) → Ascends ys → Ascends (with_element nat_cmp x ys)
ascends_with x [] h = (tt, tt)
ascends_with x (y ∷ ys) h =
    elim (cases_Bool (nat_lt x y)) [
      | inl less ↦ rw less (let low : x < y = ltb-true x y less in ((low, weaker (λ z. y < z) (λ z. x < z) (λ z k. omega (arith, low, k)) ys h.0), h))
      | inr more ↦ rw more (elim (cases_Bool (x == y)) [
        | inl same ↦ rw same h
        | inr other ↦ rw other (let high : y < x = grind (arith, ltb-false x y more, other) in (each_with (λ z. y < z) x ys high h.0, ascends_with x ys h.1))
      ])
    ]

ascends_in_order : (xs : List ℕ) → Ascends (in_order nat_cmp xs)
ascends_in_order [] = tt
ascends_in_order (x ∷ xs) = ascends_with x (in_order nat_cmp xs) (ascends_in_order xs)

-- a list put in order is ascending
pub in_order_ascends : (xs : List ℕ) → is_ascending (in_order nat_cmp xs) ≡ true
in_order_ascends xs = is_ascending_from (in_order nat_cmp xs) (ascends_in_order xs)

has_new : (x : ℕ) (ys : List ℕ) → has (with_element nat_cmp x ys) x ≡ true
has_new x [] = or_left (x == x) false (eq-eqb x x refl)
has_new x (y ∷ ys) =
    elim (cases_Bool (nat_lt x y)) [
      | inl less ↦ rw less (or_left (x == x) _ (eq-eqb x x refl))
      | inr more ↦ rw more (elim (cases_Bool (x == y)) [
        | inl same ↦ rw same (or_left (y == x) _ (eq-eqb y x (sym (eqb-true x y same))))
        | inr other ↦ rw other (or_right (y == x) _ (has_new x ys))
      ])
    ]

has_old : (x z : ℕ) (ys : List ℕ) → has ys z ≡ true → has (with_element nat_cmp x ys) z ≡ true
has_old x z [] h = absurd (false≢true h)
has_old x z (y ∷ ys) h =
    elim (cases_Bool (nat_lt x y)) [
      | inl less ↦ rw less (or_right (x == z) _ h)
      | inr more ↦ rw more (elim (cases_Bool (x == y)) [
        | inl same ↦ rw same h
        | inr other ↦ rw other (elim (or_cases (y == z) (has ys z) h) [ inl here ↦ or_left (y == z) _ here | inr later ↦ or_right (y == z) _ (has_old x z ys later) ])
      ])
    ]

-- a list put in order has what the list has
pub has_in_order : (z : ℕ) (xs : List ℕ) → has xs z ≡ true → has (in_order nat_cmp xs) z ≡ true
has_in_order z [] h = absurd (false≢true h)
has_in_order z (x ∷ xs) h =
    elim (or_cases (x == z) (has xs z) h) [
      | inl here ↦ rw (eqb-true x z here) (has_new z (in_order nat_cmp xs))
      | inr later ↦ has_old x z (in_order nat_cmp xs) (has_in_order z xs later)
    ]
