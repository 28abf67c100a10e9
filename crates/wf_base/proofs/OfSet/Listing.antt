-- A word that part_holds the numbers of an ascending list has that list as its values.
use Rattle.std.proofs.Common.{◌≡◌, ℕ, zero, suc, ◌+◌, ◌<◌, ◌≤◌, ◌==◌, ◌||◌, Bool, true, false, cond, List, [], ◌∷◌, filter, refl, sym, ap, ◌∙◌, ⊎_elim, arith, eq-eqb, ne_eqb}
use Rattle.std.specs.List.{AllByRecursion, range_with_len}
use Rattle.std.proofs.lemmas.Bool.{cases_eq, cases_lt, false≢true, or_left, or_right, or_from}
use Rattle.wf_model.specs.Lists.{has}
use Rattle.wf_model.proofs.Lemmas.{Ascends, weaker, always}
use Rattle.wf_base.specs.Set.Sets.{holds, values_in}
use Rattle.wf_base.proofs.OfSet.SetLaws.{has-values_in, too_large}

-- ---- an ascending list as a part of a run

-- a number below all of a list is not in it
none_later : (v : ℕ) (ys : List ℕ) → AllByRecursion (λ y. v < y) ys → has ys v ≡ false
none_later v [] h = refl
none_later v (y ∷ ys) h = or_from (y == v) (has ys v) (ne_eqb y v (λ (e : y ≡ v). absurd (omega (arith, h.0, e)))) (none_later v ys h.1)

-- of a run of numbers, a test for those of an ascending list keeps that list
run_keeps : (p : ℕ → Bool) (xs : List ℕ) (a n : ℕ) → Ascends xs → AllByRecursion (λ x. a ≤ x) xs → AllByRecursion (λ x. x < a + n) xs → ((v : ℕ) → a ≤ v → v < a + n → p v ≡ has xs v) → filter p (range_with_len a n) ≡ xs
run_keeps p [] a zero up low high same = refl
run_keeps p (x ∷ xs) a zero up low high same = absurd (let none : ⊥ = omega (arith, low.0, high.0) in none)
run_keeps p [] a (suc n) up low high same =
    let ps = filter p (range_with_len (a + 1) n) in
    let skips : cond (p a) (a ∷ ps) ps ≡ ps = ap (λ b. cond b (a ∷ ps) ps) (same a (omega arith) (omega arith)) in
    skips ∙ run_keeps p [] (a + 1) n tt tt tt (λ v l h. same v (omega (arith, l)) (omega (arith, h)))
run_keeps p (x ∷ xs) a (suc n) up low high same =
    let ps = filter p (range_with_len (a + 1) n) in
    ⊎_elim
    (λ (e : a ≡ x).
    let keeps : cond (p a) (a ∷ ps) ps ≡ a ∷ ps = ap (λ b. cond b (a ∷ ps) ps) (same a (omega arith) (omega arith) ∙ or_left (x == a) (has xs a) (eq-eqb x a (sym e))) in
    let rest : ps ≡ xs = run_keeps p xs (a + 1) n up.1
    (weaker (λ y. x < y) (λ y. a + 1 ≤ y) (λ y k. omega (arith, k, e)) xs up.0)
    (weaker (λ y. y < a + suc n) (λ y. y < a + 1 + n) (λ y k. omega (arith, k)) xs high.1)
    (λ v l h. same v (omega (arith, l)) (omega (arith, h)) ∙ ap (λ b. b || has xs v) (ne_eqb x v (λ (same_v : x ≡ v). absurd (omega (arith, l, e, same_v))))) in
    keeps ∙ ap (λ y. y ∷ ps) e ∙ ap (λ ys. x ∷ ys) rest)
    (λ (ne : a ≡ x → ⊥).
    let less : a < x = omega (arith, ne, low.0) in
    let later = weaker (λ y. x < y) (λ y. a < y) (λ y k. omega (arith, k, less)) xs up.0 in
    let skips : cond (p a) (a ∷ ps) ps ≡ ps = ap (λ b. cond b (a ∷ ps) ps) (same a (omega arith) (omega arith) ∙ none_later a (x ∷ xs) (less, later)) in
    skips ∙ run_keeps p (x ∷ xs) (a + 1) n up
    (weaker (λ y. a < y) (λ y. a + 1 ≤ y) (λ y k. omega (arith, k)) (x ∷ xs) (less, later))
    (weaker (λ y. y < a + suc n) (λ y. y < a + 1 + n) (λ y k. omega (arith, k)) (x ∷ xs) high)
    (λ v l h. same v (omega (arith, l)) (omega (arith, h))))
    (cases_eq a x)

-- ---- a set

-- a set that has what an ascending list has
-- a list of what the set has has nothing past the limit
below_limit : (set xs : List ℕ) → ((v : ℕ) → has (values_in set) v ≡ has xs v) → (v : ℕ) → has xs v ≡ true → v < 256
below_limit set xs same v h =
    ⊎_elim (λ (low : v < 256). low) (λ (high : 256 ≤ v). let none : false ≡ true = sym (too_large set v high) ∙ same v ∙ h in absurd (false≢true none)) (cases_lt v 256)

all_below : (set xs : List ℕ) → ((v : ℕ) → has (values_in set) v ≡ has xs v) → (ys : List ℕ) → ((v : ℕ) → has ys v ≡ true → has xs v ≡ true) → AllByRecursion (λ x. x < 0 + 256) ys
all_below set xs same [] there = tt
all_below set xs same (y ∷ ys) there = (
  below_limit set xs same y (there y (or_left (y == y) (has ys y) (eq-eqb y y refl))),
  all_below set xs same ys (λ v h. there v (or_right (y == v) (has ys v) h)),
)

pub values_listed : (set : List ℕ) (xs : List ℕ) → Ascends xs → ((v : ℕ) → has (values_in set) v ≡ has xs v) → values_in set ≡ xs
unfolding values_in
values_listed set xs up same =
    run_keeps (holds set) xs 0 256 up (always (λ x. 0 ≤ x) (λ x. omega arith) xs) (all_below set xs same xs (λ v h. h))
    (λ v low high. sym (has-values_in set v (omega (arith, high))) ∙ same v)
