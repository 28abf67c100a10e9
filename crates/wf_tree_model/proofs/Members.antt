-- Elements of lists, by recursion.
use Rattle.std.proofs.Common.{◌≡◌, ℕ, zero, suc, ◌<◌, Bool, true, List, [], ◌∷◌, ◌++◌, map, filter, flat_map, length, get_or, Contains, ◌⊎◌, inl, inr, refl, sym, ap, ◌∙◌, subst, arith}
use Rattle.std.specs.List.{AllByRecursion, list_all, list_any}
use Rattle.std.specs.declared.cmp.Ordering.{Ordering}
use Rattle.std.specs.declared.cmp.Ordering.TheVariants.{Less, Equal, Greater}
use Rattle.std.specs.Ordering.{match_ordering}
use Rattle.std.specs.FinMap.{IsAntisymmetric}
use Rattle.std.proofs.lemmas.Bool.{and_from, cases_Bool, false≢true, or_cases, or_left, or_right}
use Rattle.wf_model.specs.Lists.{in_order, lists_of, with_element}
use Rattle.wf_model.proofs.Lemmas.{each_flat, each_map}
use Rattle.wf_tree_model.proofs.OfCounting.Lemmas.{each}

-- x is one of the elements
abbrev pub Has : {X : Type 0} → X → List X → Type 0
Has x [] = ⊥
Has x (y ∷ ys) = (y ≡ x) ⊎ Has x ys

pub contains : {X : Type 0} (x : X) (ys : List X) → Has x ys → Contains ys x
contains x [] h = absurd h
contains x (y ∷ ys) (inl e) = (0, omega arith, e)
contains x (y ∷ ys) (inr h) = let at = contains x ys h in (suc at.0, omega (arith, at.1), at.2)

pub contained_has : {X : Type 0} (x : X) (xs : List X) → Contains xs x → Has x xs
contained_has {X} x xs h = at xs h.0 h.1 h.2
  where
    at : (ys : List X) (k : ℕ) → k < length ys → get_or ys k x ≡ x → Has x ys
    at [] k low is = absurd (let none : ⊥ = omega (arith, low) in none)
    at (y ∷ ys) zero low is = inl is
    at (y ∷ ys) (suc k) low is = inr (at ys k (omega (arith, low)) is)

-- ---- what each element has

pub of_has : {X : Type 0} (P : X → Type 0) (xs : List X) (x : X) → AllByRecursion P xs → Has x xs → P x
of_has P [] x h there = absurd there
of_has P (y ∷ ys) x h (inl e) = subst P e h.0
of_has P (y ∷ ys) x h (inr there) = of_has P ys x h.1 there

pub passes_each : {X : Type 0} (test : X → Bool) (xs : List X) → AllByRecursion (λ x. test x ≡ true) xs → list_all test xs ≡ true
passes_each test [] h = refl
passes_each test (x ∷ xs) h = and_from (test x) (list_all test xs) h.0 (passes_each test xs h.1)

pub from_each : {X : Type 0} (P : X → Type 0) (xs : List X) → ((x : X) → Has x xs → P x) → AllByRecursion P xs
from_each P [] f = tt
from_each P (x ∷ xs) f = (f x (inl refl), from_each P xs (λ y h. f y (inr h)))

-- ---- joined lists

pub has_left : {X : Type 0} (x : X) (ys zs : List X) → Has x ys → Has x (ys ++ zs)
has_left x [] zs h = absurd h
has_left x (y ∷ ys) zs (inl e) = inl e
has_left x (y ∷ ys) zs (inr h) = inr (has_left x ys zs h)

pub has_right : {X : Type 0} (x : X) (ys zs : List X) → Has x zs → Has x (ys ++ zs)
has_right x [] zs h = h
has_right x (y ∷ ys) zs h = inr (has_right x ys zs h)

pub map_has : {X Y : Type 0} (f : X → Y) (x : X) (xs : List X) → Has x xs → Has (f x) (map f xs)
map_has f x [] h = absurd h
map_has f x (y ∷ ys) (inl e) = inl (ap f e)
map_has f x (y ∷ ys) (inr h) = inr (map_has f x ys h)

pub flat_has : {X Y : Type 0} (f : X → List Y) (x : X) (y : Y) (xs : List X) → Has x xs → Has y (f x) → Has y (flat_map f xs)
flat_has f x y [] h there = absurd h
flat_has f x y (z ∷ zs) (inl e) there = has_left y (f z) (flat_map f zs) (subst (λ u. Has y (f u)) (sym e) there)
flat_has f x y (z ∷ zs) (inr h) there = has_right y (f z) (flat_map f zs) (flat_has f x y zs h there)

pub filter_has : {X : Type 0} (test : X → Bool) (x : X) (xs : List X) → Has x xs → test x ≡ true → Has x (filter test xs)
filter_has test x [] h pass = absurd h
filter_has test x (y ∷ ys) (inl e) pass =
    let here : test y ≡ true = ap test e ∙ pass in
    rw here (inl e)
filter_has test x (y ∷ ys) (inr h) pass =
    elim (cases_Bool (test y)) [
      | inl in' ↦ rw in' (inr (filter_has test x ys h pass))
      | inr out ↦ rw out (filter_has test x ys h pass)
    ]

pub any_has : {X : Type 0} (test : X → Bool) (x : X) (xs : List X) → Has x xs → test x ≡ true → list_any test xs ≡ true
any_has test x [] h pass = absurd h
any_has test x (y ∷ ys) (inl e) pass = or_left (test y) (list_any test ys) (ap test e ∙ pass)
any_has test x (y ∷ ys) (inr h) pass = or_right (test y) (list_any test ys) (any_has test x ys h pass)

pub has_any : {X : Type 0} (test : X → Bool) (xs : List X) → list_any test xs ≡ true → (x : X) × Has x xs × (test x ≡ true)
has_any test [] h = absurd (false≢true h)
has_any test (x ∷ xs) h =
    elim (or_cases (test x) (list_any test xs) h) [
      | inl here ↦ (x, inl refl, here)
      | inr later ↦ let found = has_any test xs later in (found.0, inr found.1, found.2)
    ]

-- ---- lists in order

module _ {X : Type 0} (cmp : X → X → Ordering) (same : IsAntisymmetric cmp) where
  with_element_has : (x y : X) (ys : List X) → (y ≡ x) ⊎ Has x ys → Has x (with_element cmp y ys)
  with_element_has x y [] h = h
  with_element_has x y (z ∷ zs) h = by (with_element_has x y zs) (cmp y z) refl h
    where
      by : ((y ≡ x) ⊎ Has x zs → Has x (with_element cmp y zs)) → (r : Ordering) → cmp y z ≡ r → (y ≡ x) ⊎ Has x (z ∷ zs) → Has x (match_ordering r (y ∷ z ∷ zs) (z ∷ zs) (z ∷ with_element cmp y zs))
      by deeper Less is (inl e) = inl e
      by deeper Less is (inr h) = inr h
      by deeper Equal is (inl e) = inl (sym (same y z is) ∙ e)
      by deeper Equal is (inr h) = h
      by deeper Greater is (inl e) = inr (deeper (inl e))
      by deeper Greater is (inr (inl e)) = inl e
      by deeper Greater is (inr (inr h)) = inr (deeper (inr h))

  pub in_order_has : (x : X) (ys : List X) → Has x ys → Has x (in_order cmp ys)
  in_order_has x [] h = h
  in_order_has x (y ∷ ys) (inl e) = with_element_has x y (in_order cmp ys) (inl e)
  in_order_has x (y ∷ ys) (inr h) = with_element_has x y (in_order cmp ys) (inr (in_order_has x ys h))

-- ---- lists of elements

-- so long, each element one of these
abbrev pub AreOf : {X : Type 0} → List X → ℕ → List X → Type 0
AreOf xs r ys = (length ys ≡ r) × AllByRecursion (λ y. Has y xs) ys

pub lists_have : {X : Type 0} (xs : List X) (r : ℕ) (ys : List X) → AreOf xs r ys → Has ys (lists_of xs r)
lists_have xs zero [] h = inl refl
lists_have xs zero (y ∷ ys) h = absurd (let none : ⊥ = (let l = h.0 in omega (arith, l)) in none)
lists_have xs (suc r) [] h = absurd (let none : ⊥ = (let l = h.0 in omega (arith, l)) in none)
lists_have xs (suc r) (y ∷ ys) h =
    let shorter : length ys ≡ r = (let l = h.0 in omega (arith, l)) in
    flat_has (λ x. map (λ rest. x ∷ rest) (lists_of xs r)) y (y ∷ ys) xs h.1.0 (map_has (λ rest. y ∷ rest) ys (lists_of xs r) (lists_have xs r ys (shorter, h.1.1)))

lists_are_of : {X : Type 0} (xs : List X) (r : ℕ) → AllByRecursion (AreOf xs r) (lists_of xs r)
lists_are_of xs zero = ((refl, tt), tt)
lists_are_of xs (suc r) =
    each_flat (AreOf xs (suc r)) (λ x. map (λ rest. x ∷ rest) (lists_of xs r)) xs
    (from_each (λ x. AllByRecursion (AreOf xs (suc r)) (map (λ rest. x ∷ rest) (lists_of xs r))) xs
    (λ x there. each_map (AreOf xs (suc r)) (λ rest. x ∷ rest) (lists_of xs r)
    (each (AreOf xs r) (λ rest. AreOf xs (suc r) (x ∷ rest)) (λ rest h. (ap suc h.0, (there, h.1))) (lists_of xs r) (lists_are_of xs r))))

pub has_lists : {X : Type 0} (xs : List X) (r : ℕ) (ys : List X) → Has ys (lists_of xs r) → AreOf xs r ys
has_lists xs r ys h = of_has (AreOf xs r) (lists_of xs r) ys (lists_are_of xs r) h
