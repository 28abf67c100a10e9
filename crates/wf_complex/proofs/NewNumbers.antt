-- New numbers that stand beside old ones.
use Rattle.std.proofs.Common.{◌≡◌, ◌<◌, ◌≤◌, ◌==◌, ℕ, zero, suc, true, List, [], ◌∷◌, ◌++◌, map, length, take, drop, get_or, All, Ok, Err, sym, refl, ap, ◌∙◌, subst, inl, inr, arith, eqb-true, eq-eqb}
use Rattle.std.specs.List.{AllByRecursion}
use Rattle.std.specs.List.Sorted.{IsBinarySearchResult}
use Rattle.std.specs.Ordering.{nat_cmp}
use Rattle.std.proofs.lemmas.Bool.{cases_lt, or_cases, false≢true, ne_eqb}
use Rattle.std.proofs.lemmas.List.{get_or-take, length-take}
use Rattle.std.proofs.lemmas.List.Sorted.{searched}
use Rattle.std.proofs.lemmas.List.Elements.{All-get_or, All-from_recursion}
use Rattle.wf_model.specs.Lists.{has}
use Rattle.wf_model.specs.Simplex.{is_ascending}
use Rattle.wf_model.proofs.Lemmas.{Ascends, ascends_from}
use Rattle.wf_complex.specs.Renaming.{number_beside}

not_falling : (xs : List ℕ) → Ascends xs → (i j : ℕ) → i ≤ j → j < length xs → get_or xs i 0 ≤ get_or xs j 0
not_falling [] h i j low k = absurd (let none : ⊥ = omega (arith, k) in none)
not_falling (x ∷ xs) h zero zero low k = omega arith
not_falling (x ∷ xs) h zero (suc j) low k = omega (arith, All-get_or (λ y. x < y) xs j 0 (omega (arith, k)) (All-from_recursion _ xs h.0))
not_falling (x ∷ xs) h (suc i) zero low k = absurd (let none : ⊥ = omega (arith, low) in none)
not_falling (x ∷ xs) h (suc i) (suc j) low k = not_falling xs h.1 i j (omega (arith, low)) (omega (arith, k))

has_place : (xs : List ℕ) (x : ℕ) → has xs x ≡ true → (i : ℕ) × (i < length xs) × (get_or xs i 0 ≡ x)
has_place [] x h = absurd (false≢true h)
has_place (y ∷ xs) x h =
    elim (or_cases (y == x) (has xs x) h) [
      | inl here ↦ (0, omega arith, eqb-true y x here)
      | inr later ↦ (let rest = has_place xs x later in (suc (rest.0), omega (arith, rest.1), rest.2))
    ]

beside_at : (old new : List ℕ) (i id : ℕ) → Ascends old → i < length new → length new ≤ length old → get_or old i 0 ≡ id → number_beside old new id ≡ get_or new i 0
beside_at [] [] i id h k few e = absurd (let none : ⊥ = omega (arith, k) in none)
beside_at [] (n ∷ new) i id h k few e = absurd (let none : ⊥ = omega (arith, few) in none)
beside_at (x ∷ old) [] i id h k few e = absurd (let none : ⊥ = omega (arith, k) in none)
beside_at (x ∷ old) (n ∷ new) zero id h k few e = rw (eq-eqb x id e) refl
beside_at (x ∷ old) (n ∷ new) (suc i) id h k few e =
    let low : x < get_or old i 0 = All-get_or (λ y. x < y) old i 0 (omega (arith, k, few)) (All-from_recursion _ old h.0) in
    rw (ne_eqb x id (λ same. absurd (let none : ⊥ = omega (arith, low, e, same) in none))) (beside_at old new i id h.1 (omega (arith, k)) (omega (arith, few)) e)

pub each_take : (P : ℕ → Type 0) (n : ℕ) (xs : List ℕ) → AllByRecursion P xs → AllByRecursion P (take n xs)
each_take P zero xs h = tt
each_take P (suc n) [] h = tt
each_take P (suc n) (x ∷ xs) h = (h.0, each_take P n xs h.1)

ascends_take : (n : ℕ) (xs : List ℕ) → Ascends xs → Ascends (take n xs)
ascends_take zero xs h = tt
ascends_take (suc n) [] h = tt
ascends_take (suc n) (x ∷ xs) h = (each_take (λ y. x < y) n xs h.0, ascends_take n xs h.1)

module _ (old new : List ℕ) (id : ℕ) (ascending : is_ascending old ≡ true) (few : length new ≤ length old) where
  front : List ℕ
  front = take (length new) old

  order : (i j : ℕ) → i ≤ j → j < length (take (length new) old) → get_or (take (length new) old) i 0 ≤ get_or (take (length new) old) j 0
  order = not_falling (take (length new) old) (ascends_take (length new) old (ascends_from old ascending))

  pub found : (place : ℕ) → IsBinarySearchResult (λ y. nat_cmp y id) (take (length new) old) (Ok place) → get_or new place 0 ≡ number_beside old new id
  found place is =
      let at = searched (take (length new) old) id (Ok place) is order in
      let below : place < length new = omega (arith, at.0, length-take (length new) old) in
      sym (beside_at old new place id (ascends_from old ascending) below few (sym (get_or-take (length new) old place 0 below) ∙ at.1))

  pub missed : (place : ℕ) → has (take (length new) old) id ≡ true → IsBinarySearchResult (λ y. nat_cmp y id) (take (length new) old) (Err place) → ⊥
  missed place known is =
      let at = searched (take (length new) old) id (Err place) is order in
      let there = has_place (take (length new) old) id known in
      elim (cases_lt (there.0) place) [
        | inl before ↦ absurd (let low = at.1 (there.0) before in let none : ⊥ = omega (arith, low, there.2) in none)
        | inr after ↦ absurd (let high = at.2 (there.0) after (there.1) in let none : ⊥ = omega (arith, high, there.2) in none)
      ]

seam : (f : ℕ → ℕ) (xs : List ℕ) (i : ℕ) → i < length xs → get_or (map f (take i xs) ++ drop i xs) i 0 ≡ get_or xs i 0
seam f [] i h = absurd (let none : ⊥ = omega (arith, h) in none)
seam f (x ∷ xs) zero h = refl
seam f (x ∷ xs) (suc i) h = seam f xs i (omega (arith, h))

-- the number that is looked up next
pub next_known : (P : ℕ → Type 0) (f : ℕ → ℕ) (xs ids : List ℕ) (n i : ℕ) → ids ≡ map f (take i xs) ++ drop i xs → n ≤ length xs → i < n → All P (take n xs) → P (get_or ids i 0)
next_known P f xs ids n i is long low h =
    let e : get_or (take n xs) i 0 ≡ get_or ids i 0 = get_or-take n xs i 0 low ∙ sym (ap (λ ys. get_or ys i 0) is ∙ seam f xs i (omega (arith, low, long))) in
    subst P e (All-get_or P (take n xs) i 0 (omega (arith, length-take n xs, low, long)) h)
