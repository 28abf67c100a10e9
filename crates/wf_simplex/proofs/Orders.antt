-- Lists in order, each element once: `in_order` under an order that tells apart what differs.
use Rattle.std.proofs.Common.{◌≡◌, ℕ, zero, suc, Bool, true, ◌<◌, ◌≤◌, List, [], ◌∷◌, ◌++◌, length, map, get_or, Contains, ◌⊎◌, inl, inr, refl, sym, ap, ◌∙◌, subst, arith}
use Rattle.std.specs.declared.cmp.Ordering.{Ordering}
use Rattle.std.specs.declared.cmp.Ordering.TheVariants.{Less, Equal, Greater}
use Rattle.std.specs.Ordering.{match_ordering, ordering_reverse, eq_by_cmp}
use Rattle.std.specs.Cmp.{IsTotalOrder, IsEquivalence, Equal-is, tied_itself}
use Rattle.std.specs.List.{AllByRecursion, dedup}
use Rattle.std.specs.List.Retain.{IsFiltered, DiffersFromLast}
use Rattle.std.specs.List.Sorted.{IsPermutation, IsSorted, IsStrictlySortedBy}
use Rattle.std.proofs.lemmas.List.Filters.{dedup_is}
use Rattle.std.proofs.lemmas.List.Kept.{Contains-dedup, Contains-from_dedup, IsStrictlySortedBy-dedup}
use Rattle.std.proofs.lemmas.List.Sorted.{Contains-permutation, IsPermutation-sym}
use Rattle.std.specs.BTreeSet.{insert_key}
use Rattle.wf_model.specs.Lists.{with_element, in_order}

-- x is one of the elements, by recursion
abbrev pub Has : {X : Type 0} → X → List X → Type 0
Has x [] = ⊥
Has x (y ∷ ys) = (y ≡ x) ⊎ Has x ys

-- what a set of std does with one more key
pub insert_key-with_element : {X : Type 0} (cmp : X → X → Ordering) (x : X) (ys : List X) → insert_key cmp ys x ≡ with_element cmp x ys
insert_key-with_element cmp x [] = refl
insert_key-with_element cmp x (y ∷ ys) = ap (λ zs. match_ordering (cmp x y) (x ∷ y ∷ ys) (y ∷ ys) (y ∷ zs)) (insert_key-with_element cmp x ys)

-- ---- how many

pub length-with_element : {X : Type 0} (cmp : X → X → Ordering) (x : X) (ys : List X) → length (with_element cmp x ys) ≤ suc (length ys)
length-with_element cmp x [] = omega arith
length-with_element cmp x (y ∷ ys) = by (cmp x y) (length-with_element cmp x ys)
  where
    by : (o : Ordering) → length (with_element cmp x ys) ≤ suc (length ys) → length (match_ordering o (x ∷ y ∷ ys) (y ∷ ys) (y ∷ with_element cmp x ys)) ≤ suc (suc (length ys))
    by Less h = omega arith
    by Equal h = omega arith
    by Greater h = omega arith

pub length-in_order : {X : Type 0} (cmp : X → X → Ordering) (xs : List X) → length (in_order cmp xs) ≤ length xs
length-in_order cmp [] = omega arith
length-in_order cmp (x ∷ xs) = omega (arith, length-with_element cmp x (in_order cmp xs), length-in_order cmp xs)

-- ---- which elements

pub has-append_left : {X : Type 0} (x : X) (ys zs : List X) → Has x ys → Has x (ys ++ zs)
has-append_left x [] zs h = absurd h
has-append_left x (y ∷ ys) zs (inl e) = inl e
has-append_left x (y ∷ ys) zs (inr h) = inr (has-append_left x ys zs h)

pub has-append_right : {X : Type 0} (x : X) (ys zs : List X) → Has x zs → Has x (ys ++ zs)
has-append_right x [] zs h = h
has-append_right x (y ∷ ys) zs h = inr (has-append_right x ys zs h)

pub has-append : {X : Type 0} (x : X) (ys zs : List X) → Has x (ys ++ zs) → Has x ys ⊎ Has x zs
has-append x [] zs h = inr h
has-append x (y ∷ ys) zs (inl e) = inl (inl e)
has-append x (y ∷ ys) zs (inr h) = elim (has-append x ys zs h) [ inl g ↦ inl (inr g) | inr g ↦ inr g ]

pub has_at_place : {X : Type 0} (x : X) (ys : List X) → Has x ys → Contains ys x
has_at_place x [] h = absurd h
has_at_place x (y ∷ ys) (inl e) = (0, omega arith, e)
has_at_place x (y ∷ ys) (inr h) = let at = has_at_place x ys h in (suc at.0, omega (arith, at.1), at.2)

pub contains-has : {X : Type 0} (x : X) (xs : List X) → Contains xs x → Has x xs
contains-has {X} x xs h = at xs h.0 h.1 h.2
  where
    at : (ys : List X) (k : ℕ) → k < length ys → get_or ys k x ≡ x → Has x ys
    at [] k low is = absurd (let none : ⊥ = omega (arith, low) in none)
    at (y ∷ ys) zero low is = inl is
    at (y ∷ ys) (suc k) low is = inr (at ys k (omega (arith, low)) is)

pub map-has : {X Y : Type 0} (f : X → Y) (x : X) (xs : List X) → Has x xs → Has (f x) (map f xs)
map-has f x [] h = absurd h
map-has f x (y ∷ ys) (inl e) = inl (ap f e)
map-has f x (y ∷ ys) (inr h) = inr (map-has f x ys h)

pub has-map : {X Y : Type 0} (f : X → Y) (y : Y) (xs : List X) → Has y (map f xs) → (x : X) × Has x xs × (f x ≡ y)
has-map f y [] h = absurd h
has-map f y (x ∷ xs) (inl e) = (x, inl refl, e)
has-map f y (x ∷ xs) (inr h) = let r = has-map f y xs h in (r.0, inr r.1, r.2)

module _ {X : Type 0} (cmp : X → X → Ordering) (o : IsTotalOrder cmp) (same : (x y : X) → cmp x y ≡ Equal → x ≡ y) where
  has_with_element : (x y : X) (ys : List X) → Has x (with_element cmp y ys) → (y ≡ x) ⊎ Has x ys
  has_with_element x y [] (inl e) = inl e
  has_with_element x y [] (inr h) = inr h
  has_with_element x y (z ∷ zs) h = by (has_with_element x y zs) (cmp y z) h
    where
      by : (Has x (with_element cmp y zs) → (y ≡ x) ⊎ Has x zs) → (r : Ordering) → Has x (match_ordering r (y ∷ z ∷ zs) (z ∷ zs) (z ∷ with_element cmp y zs)) → (y ≡ x) ⊎ Has x (z ∷ zs)
      by deeper Less (inl e) = inl e
      by deeper Less (inr h) = inr h
      by deeper Equal h = inr h
      by deeper Greater (inl e) = inr (inl e)
      by deeper Greater (inr h) = elim (deeper h) [ inl e ↦ inl e | inr g ↦ inr (inr g) ]

  pub with_element_has : (x y : X) (ys : List X) → (y ≡ x) ⊎ Has x ys → Has x (with_element cmp y ys)
  with_element_has x y [] h = h
  with_element_has x y (z ∷ zs) h = by (with_element_has x y zs) (cmp y z) refl h
    where
      by : ((y ≡ x) ⊎ Has x zs → Has x (with_element cmp y zs)) → (r : Ordering) → cmp y z ≡ r → (y ≡ x) ⊎ Has x (z ∷ zs) → Has x (match_ordering r (y ∷ z ∷ zs) (z ∷ zs) (z ∷ with_element cmp y zs))
      by deeper Less is (inl e) = inl e
      by deeper Less is (inr h) = inr h
      by deeper Equal is (inl e) = inl (sym (same y z is) ∙ e)
      by deeper Equal is (inr h) = h
      by deeper Greater is (inl e) = inr (deeper (inl e))
      by deeper Greater is (inr (inl e)) = inl e
      by deeper Greater is (inr (inr h)) = inr (deeper (inr h))

  -- putting in order keeps the elements
  pub has-in_order : (x : X) (ys : List X) → Has x (in_order cmp ys) → Has x ys
  has-in_order x [] h = h
  has-in_order x (y ∷ ys) h = elim (has_with_element x y (in_order cmp ys) h) [ inl e ↦ inl e | inr g ↦ inr (has-in_order x ys g) ]

  pub in_order-has : (x : X) (ys : List X) → Has x ys → Has x (in_order cmp ys)
  in_order-has x [] h = h
  in_order-has x (y ∷ ys) (inl e) = with_element_has x y (in_order cmp ys) (inl e)
  in_order-has x (y ∷ ys) (inr h) = with_element_has x y (in_order cmp ys) (inr (in_order-has x ys h))

  -- ---- in order

  turned : (x y : X) → cmp x y ≡ Greater → cmp y x ≡ Less
  turned x y h = o.antisymm y x ∙ ap ordering_reverse h

  all_below : (x y : X) (ys : List X) → cmp x y ≡ Less → AllByRecursion (λ z. cmp y z ≡ Less) ys → AllByRecursion (λ z. cmp x z ≡ Less) ys
  all_below x y [] h g = tt
  all_below x y (z ∷ zs) h g = (o.trans x y z h g.0, all_below x y zs h g.1)

  below_with_element : (x y : X) (ys : List X) → cmp x y ≡ Less → AllByRecursion (λ z. cmp x z ≡ Less) ys → AllByRecursion (λ z. cmp x z ≡ Less) (with_element cmp y ys)
  below_with_element x y [] h g = (h, tt)
  below_with_element x y (z ∷ zs) h g = by (below_with_element x y zs h g.1) (cmp y z)
    where
      by : AllByRecursion (λ w. cmp x w ≡ Less) (with_element cmp y zs) → (r : Ordering) → AllByRecursion (λ w. cmp x w ≡ Less) (match_ordering r (y ∷ z ∷ zs) (z ∷ zs) (z ∷ with_element cmp y zs))
      by deeper Less = (h, g)
      by deeper Equal = g
      by deeper Greater = (g.0, deeper)

  sorted-with_element : (y : X) (ys : List X) → IsStrictlySortedBy cmp ys → IsStrictlySortedBy cmp (with_element cmp y ys)
  unfolding IsStrictlySortedBy
  sorted-with_element y [] h = (tt, tt)
  sorted-with_element y (z ∷ zs) h = by (sorted-with_element y zs h.1) (cmp y z) refl
    where
      by : IsStrictlySortedBy cmp (with_element cmp y zs) → (r : Ordering) → cmp y z ≡ r → IsStrictlySortedBy cmp (match_ordering r (y ∷ z ∷ zs) (z ∷ zs) (z ∷ with_element cmp y zs))
      by deeper Less is = ((is, all_below y z zs is h.0), h)
      by deeper Equal is = h
      by deeper Greater is = (below_with_element z y zs (turned y z is) h.0, deeper)

  pub sorted-in_order : (ys : List X) → IsStrictlySortedBy cmp (in_order cmp ys)
  unfolding IsStrictlySortedBy
  sorted-in_order [] = tt
  sorted-in_order (y ∷ ys) = sorted-with_element y (in_order cmp ys) (sorted-in_order ys)

  below_at : (x y : X) (ys : List X) → AllByRecursion (λ z. cmp x z ≡ Less) ys → Has y ys → cmp x y ≡ Less
  below_at x y [] h g = absurd g
  below_at x y (z ∷ zs) h (inl e) = subst (λ w. cmp x w ≡ Less) e h.0
  below_at x y (z ∷ zs) h (inr g) = below_at x y zs h.1 g

  irreflexive : (x : X) → cmp x x ≡ Less → ⊥
  irreflexive x h = let e : Less ≡ Equal = sym h ∙ tied_itself o x in cc

  one_way : (x y : X) → cmp x y ≡ Less → cmp y x ≡ Less → ⊥
  one_way x y h g = irreflexive x (o.trans x y x h g)

  first_is : (x y : X) (xs ys : List X) → AllByRecursion (λ z. cmp x z ≡ Less) xs → AllByRecursion (λ z. cmp y z ≡ Less) ys → Has x (y ∷ ys) → Has y (x ∷ xs) → x ≡ y
  first_is x y xs ys h g (inl e) there = sym e
  first_is x y xs ys h g (inr here) (inl e) = e
  first_is x y xs ys h g (inr here) (inr there) = absurd (one_way x y (below_at x y xs h there) (below_at y x ys g here))

  rest_has : (x z : X) (xs ys : List X) → AllByRecursion (λ w. cmp x w ≡ Less) xs → Has z xs → Has z (x ∷ ys) → Has z ys
  rest_has x z xs ys h here (inl e) = absurd (irreflexive x (subst (λ w. cmp x w ≡ Less) (sym e) (below_at x z xs h here)))
  rest_has x z xs ys h here (inr g) = g

  -- two lists in order with the same elements are one list
  pub same_in_order : (xs ys : List X) → IsStrictlySortedBy cmp xs → IsStrictlySortedBy cmp ys → ((z : X) → Has z xs → Has z ys) → ((z : X) → Has z ys → Has z xs) → xs ≡ ys
  unfolding IsStrictlySortedBy
  same_in_order [] [] h g f b = refl
  same_in_order [] (y ∷ ys) h g f b = absurd (b y (inl refl))
  same_in_order (x ∷ xs) [] h g f b = absurd (f x (inl refl))
  same_in_order (x ∷ xs) (y ∷ ys) h g f b =
      let e : x ≡ y = first_is x y xs ys h.0 g.0 (f x (inl refl)) (b y (inl refl)) in
      let rest = same_in_order xs ys h.1 g.1
      (λ z here. rest_has x z xs ys h.0 here (subst (λ w. Has z (w ∷ ys)) (sym e) (f z (inr here))))
      (λ z here. rest_has y z ys xs g.0 here (subst (λ w. Has z (w ∷ xs)) e (b z (inr here)))) in
      λ i. e i ∷ rest i

  -- what is in order stays
  pub in_order-sorted : (xs : List X) → IsStrictlySortedBy cmp xs → in_order cmp xs ≡ xs
  in_order-sorted xs h = same_in_order (in_order cmp xs) xs (sorted-in_order xs) h (λ z. has-in_order z xs) (λ z. in_order-has z xs)

  pub in_order-in_order : (xs : List X) → in_order cmp (in_order cmp xs) ≡ in_order cmp xs
  in_order-in_order xs = in_order-sorted (in_order cmp xs) (sorted-in_order xs)

  -- a list that was sorted, without each element that is the same as the one before
  pub in_order-dedup : {E : X → X → Bool} → IsEquivalence E → ((x y : X) → E x y ≡ eq_by_cmp cmp x y) → (xs ys zs : List X)
      → IsPermutation xs ys → IsSorted cmp ys → IsFiltered (DiffersFromLast E) [] ys zs → zs ≡ in_order cmp xs
  in_order-dedup {E} laws ties xs ys zs moved ascend once =
      let is : zs ≡ dedup E ys = dedup_is E ys zs once in
      let exact : (x y : X) → E x y ≡ true → x ≡ y = λ x y h. same x y ((Equal-is (cmp x y)).0 (sym (ties x y) ∙ h)) in
      is ∙ same_in_order (dedup E ys) (in_order cmp xs) (IsStrictlySortedBy-dedup o ties ys ascend) (sorted-in_order xs)
      (λ z h. in_order-has z xs (contains-has z xs (Contains-permutation ys xs z (IsPermutation-sym xs ys moved) (Contains-from_dedup E ys z (has_at_place z (dedup E ys) h)))))
      (λ z h. contains-has z (dedup E ys) (Contains-dedup laws exact ys z (Contains-permutation xs ys z moved (has_at_place z xs (has-in_order z xs h)))))

  -- the order in which the elements come is of no matter, nor how often
  pub in_order-same : (xs ys : List X) → ((z : X) → Has z xs → Has z ys) → ((z : X) → Has z ys → Has z xs) → in_order cmp xs ≡ in_order cmp ys
  in_order-same xs ys f b =
      same_in_order (in_order cmp xs) (in_order cmp ys) (sorted-in_order xs) (sorted-in_order ys)
      (λ z h. in_order-has z ys (f z (has-in_order z xs h))) (λ z h. in_order-has z xs (b z (has-in_order z ys h)))
