-- Lists of tuples: which tuples they have, each once, and in which order.
use Rattle.std.proofs.Common.{◌≡◌, ℕ, zero, suc, ◌==◌, ◌<◌, Bool, true, List, [], ◌∷◌, cond, get_or, length, ◌⊎◌, inl, inr, refl, sym, ap, ◌∙◌, subst, arith}
use Rattle.std.specs.Cmp.{tied_itself}
use Rattle.std.specs.Cmp.Lexicographic.{slice_cmp, nat_list_cmp_total}
use Rattle.std.specs.List.{AllByRecursion, list_any}
use Rattle.std.specs.List.Sorted.{IsStrictlySortedBy}
use Rattle.std.specs.Ordering.{nat_cmp}
use Rattle.std.specs.declared.cmp.Ordering.TheVariants.{Less, Equal}
use Rattle.std.proofs.lemmas.Bool.{and_parts, cases_Bool, cond-true, cond-false, eq-eqb, eqb-true, false≢true, or_cases, or_left, or_right}
use Rattle.std.proofs.lemmas.Map.Lookups.{exact_bytes}
use Rattle.wf_model.specs.Lists.{in_order}
use Rattle.wf_model.specs.Task.{Tuple}
use Rattle.wf_simplex.proofs.Lemmas.{Has, sorted-in_order}
use Rattle.wf_tree_model.specs.Counting.Rules.{same_numbers}
use Rattle.wf_tree_model.specs.Tuples.{has_tuple}
use Rattle.wf_tree_refine.specs.Keys.{row_at}

-- ---- tests

pub numbers_alike : (xs ys : List ℕ) → same_numbers xs ys ≡ true → xs ≡ ys
numbers_alike [] [] h = refl
numbers_alike [] (y ∷ ys) h = absurd (false≢true h)
numbers_alike (x ∷ xs) [] h = absurd (false≢true h)
numbers_alike (x ∷ xs) (y ∷ ys) h =
    let parts = and_parts (x == y) (same_numbers xs ys) h in
    let first : x ≡ y = eqb-true x y parts.0 in
    let rest : xs ≡ ys = numbers_alike xs ys parts.1 in
    cc

pub numbers_are : (xs : List ℕ) → same_numbers xs xs ≡ true
numbers_are [] = refl
numbers_are (x ∷ xs) = rw (eq-eqb x x refl) (numbers_are xs)

pub any_has : {X : Type 0} (test : X → Bool) (xs : List X) → list_any test xs ≡ true → (x : X) × Has x xs × (test x ≡ true)
any_has test [] h = absurd (false≢true h)
any_has test (x ∷ xs) h = elim (or_cases (test x) (list_any test xs) h) [
  | inl here ↦ (x, inl refl, here)
  | inr later ↦ (let r = any_has test xs later in (r.0, inr r.1, r.2))
]

pub has_any : {X : Type 0} (test : X → Bool) (x : X) (xs : List X) → Has x xs → test x ≡ true → list_any test xs ≡ true
has_any test x [] h t = absurd h
has_any test x (y ∷ ys) (inl e) t = or_left (test y) (list_any test ys) (ap test e ∙ t)
has_any test x (y ∷ ys) (inr h) t = or_right (test y) (list_any test ys) (has_any test x ys h t)

pub has_tuple-has : (tuples : List Tuple) (tuple : Tuple) → has_tuple tuples tuple ≡ true → Has tuple tuples
has_tuple-has tuples tuple h = let r = any_has (same_numbers tuple) tuples h in subst (λ t. Has t tuples) (sym (numbers_alike tuple r.0 r.2)) r.1

pub has-has_tuple : (tuples : List Tuple) (tuple : Tuple) → Has tuple tuples → has_tuple tuples tuple ≡ true
has-has_tuple tuples tuple h = has_any (same_numbers tuple) tuple tuples h (numbers_are tuple)

-- ---- each once

abbrev pub Once : List Tuple → Type 0
Once [] = Unit {0}
Once (x ∷ xs) = (Has x xs → ⊥) × Once xs

later_above : (x y : Tuple) (xs : List Tuple) → AllByRecursion (λ z. slice_cmp nat_cmp x z ≡ Less) xs → Has y xs → slice_cmp nat_cmp x y ≡ Less
later_above x y [] h g = absurd g
later_above x y (z ∷ zs) h (inl e) = subst (λ w. slice_cmp nat_cmp x w ≡ Less) e h.0
later_above x y (z ∷ zs) h (inr g) = later_above x y zs h.1 g

once_sorted : (xs : List Tuple) → IsStrictlySortedBy (slice_cmp nat_cmp) xs → Once xs
unfolding IsStrictlySortedBy
once_sorted [] h = tt
once_sorted (x ∷ xs) h = (λ again. let e : Less ≡ Equal = sym (later_above x x xs h.0 again) ∙ tied_itself nat_list_cmp_total x in cc, once_sorted xs h.1)

pub once_in_order : (xs : List Tuple) → in_order (slice_cmp nat_cmp) xs ≡ xs → Once xs
once_in_order xs e = once_sorted xs (subst (IsStrictlySortedBy (slice_cmp nat_cmp)) e (sorted-in_order (slice_cmp nat_cmp) nat_list_cmp_total exact_bytes xs))

-- ---- places

pub row_has : (xs : List Tuple) (i : ℕ) → i < length xs → Has (row_at xs i) xs
row_has [] i low = absurd (let bad : ⊥ = omega (arith, low) in bad)
row_has (x ∷ xs) zero low = inl refl
row_has (x ∷ xs) (suc i) low = inr (row_has xs i (omega (arith, low)))

pub place_of : (xs : List Tuple) (x : Tuple) → Has x xs → (i : ℕ) × (i < length xs) × (row_at xs i ≡ x)
place_of [] x h = absurd h
place_of (y ∷ ys) x (inl e) = (0, omega arith, e)
place_of (y ∷ ys) x (inr h) = let r = place_of ys x h in (suc r.0, (let low = r.1 in omega (arith, low)), r.2)

-- what stands for the place of a tuple
pub look : List Tuple → (ℕ → ℕ) → Tuple → ℕ
look [] f t = 0
look (x ∷ xs) f t = cond (same_numbers x t) (f 0) (look xs (λ i. f (suc i)) t)

pub look_at : (xs : List Tuple) (f : ℕ → ℕ) (i : ℕ) → Once xs → i < length xs → look xs f (row_at xs i) ≡ f i
unfolding look
look_at [] f i once low = absurd (let bad : ⊥ = omega (arith, low) in bad)
look_at (x ∷ xs) f zero once low = cond-true (same_numbers x x) (f 0) _ (numbers_are x)
look_at (x ∷ xs) f (suc i) once low =
    let inside : i < length xs = omega (arith, low) in
    elim (cases_Bool (same_numbers x (row_at xs i))) [
      | inl e ↦ absurd (once.0 (subst (λ t. Has t xs) (sym (numbers_alike x (row_at xs i) e)) (row_has xs i inside)))
      | inr e ↦ cond-false (same_numbers x (row_at xs i)) (f 0) (look xs (λ j. f (suc j)) (row_at xs i)) e ∙ look_at xs (λ j. f (suc j)) i once.1 inside
    ]

-- a tuple stands before another
abbrev pub Earlier : List Tuple → Tuple → Tuple → Type 0
Earlier [] a t = ⊥
Earlier (x ∷ xs) a t = ((x ≡ a) × Has t xs) ⊎ Earlier xs a t

pub later_has : (xs : List Tuple) (a t : Tuple) → Earlier xs a t → Has t xs
later_has [] a t h = absurd h
later_has (x ∷ xs) a t (inl h) = inr h.1
later_has (x ∷ xs) a t (inr h) = inr (later_has xs a t h)

pub earlier_place : (xs : List Tuple) (a : Tuple) (i : ℕ) → Once xs → i < length xs → Earlier xs a (row_at xs i) → (j : ℕ) × (j < i) × (row_at xs j ≡ a)
earlier_place [] a i once low h = absurd h
earlier_place (x ∷ xs) a zero once low (inl h) = absurd (once.0 h.1)
earlier_place (x ∷ xs) a zero once low (inr h) = absurd (once.0 (later_has xs a x h))
earlier_place (x ∷ xs) a (suc i) once low (inl h) = (0, omega arith, h.0)
earlier_place (x ∷ xs) a (suc i) once low (inr h) = let r = earlier_place xs a i once.1 (omega (arith, low)) h in (suc r.0, (let l = r.1 in omega (arith, l)), r.2)

pub row_here : (xs : List Tuple) (i : ℕ) (x : Tuple) → i < length xs → x ≡ get_or xs i x → x ≡ row_at xs i
row_here xs i x low e = e ∙ same xs i low
  where
    same : (ys : List Tuple) (k : ℕ) → k < length ys → get_or ys k x ≡ row_at ys k
    same [] k small = absurd (let bad : ⊥ = omega (arith, small) in bad)
    same (y ∷ ys) zero small = refl
    same (y ∷ ys) (suc k) small = same ys k (omega (arith, small))
