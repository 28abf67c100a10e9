-- Tuples that are near to each other are in one part.
use Rattle.std.proofs.Common.{◌≡◌, ℕ, ◌==◌, not, Bool, true, false, cond, List, [], ◌∷◌, ◌++◌, filter, flat_map, ◌⊎◌, inl, inr, refl, sym, ap, ◌∙◌, subst}
use Rattle.std.specs.List.{AllByRecursion, list_any}
use Rattle.std.proofs.lemmas.Bool.{and_parts, cases_Bool, eqb-true, false≢true}
use Rattle.wf_model.specs.Task.{Tuple}
use Rattle.wf_tree_model.specs.Counting.Rules.{same_numbers}
use Rattle.wf_tree_model.proofs.OfCounting.Lemmas.{numbers_same}
use Rattle.wf_tree_model.specs.Parts.{parts}
use Rattle.wf_tree_model.specs.Splits.{name_beside}
use Rattle.wf_tree_model.specs.Tuples.{has_tuple}
use Rattle.wf_tree_model.proofs.Members.{Has, any_has, filter_has, flat_has, from_each, has_any}

-- ---- lists

split_append : {X : Type 0} (x : X) (ys zs : List X) → Has x (ys ++ zs) → Has x ys ⊎ Has x zs
split_append x [] zs h = inr h
split_append x (y ∷ ys) zs (inl e) = inl (inl e)
split_append x (y ∷ ys) zs (inr h) =
    elim (split_append x ys zs h) [
      | inl here ↦ inl (inr here)
      | inr later ↦ inr later
    ]

pub of_joined : {X Y : Type 0} (f : X → List Y) (y : Y) (xs : List X) → Has y (flat_map f xs) → (x : X) × Has x xs × Has y (f x)
of_joined f y [] h = absurd h
of_joined f y (x ∷ xs) h =
    elim (split_append y (f x) (flat_map f xs) h) [
      | inl here ↦ (x, inl refl, here)
      | inr later ↦ let found = of_joined f y xs later in (found.0, inr found.1, found.2)
    ]

pub of_filter : {X : Type 0} (test : X → Bool) (x : X) (xs : List X) → Has x (filter test xs) → Has x xs × (test x ≡ true)
of_filter test x [] h = absurd h
of_filter {X} test x (y ∷ ys) h = by (test y) refl h (of_filter test x ys)
  where
    by : (b : Bool) → test y ≡ b → Has x (cond b (y ∷ filter test ys) (filter test ys)) → (Has x (filter test ys) → Has x ys × (test x ≡ true)) → Has x (y ∷ ys) × (test x ≡ true)
    by true pass (inl e) deeper = (inl e, ap test (sym e) ∙ pass)
    by true pass (inr later) deeper = let rest = deeper later in (inr rest.0, rest.1)
    by false out later deeper = let rest = deeper later in (inr rest.0, rest.1)

pub same_tuples : (xs ys : Tuple) → same_numbers xs ys ≡ true → xs ≡ ys
same_tuples [] [] h = refl
same_tuples [] (y ∷ ys) h = absurd (false≢true h)
same_tuples (x ∷ xs) [] h = absurd (false≢true h)
same_tuples (x ∷ xs) (y ∷ ys) h =
    let both = and_parts (x == y) (same_numbers xs ys) h in
    let first = eqb-true x y both.0 in
    let rest = same_tuples xs ys both.1 in
    λ i. first i ∷ rest i

pub there_has : (tuples : List Tuple) (a : Tuple) → Has a tuples → has_tuple tuples a ≡ true
there_has tuples a there = any_has (same_numbers a) a tuples there (numbers_same a)

pub has_there : (tuples : List Tuple) (a : Tuple) → has_tuple tuples a ≡ true → Has a tuples
has_there tuples a h = let found = has_any (same_numbers a) tuples h in subst (λ b. Has b tuples) (sym (same_tuples a found.0 found.2)) found.1

both_ways : (a b : Bool) → (a ≡ true → b ≡ true) → (b ≡ true → a ≡ true) → a ≡ b
both_ways true b forth back = sym (forth refl)
both_ways false true forth back = absurd (false≢true (back refl))
both_ways false false forth back = refl

-- ---- parts

module _ (near : Tuple → Tuple → Bool) where
  abbrev meets : Tuple → List Tuple → Bool
  meets x part = list_any (near x) part

  -- the part that the first tuple makes
  abbrev joined : Tuple → List (List Tuple) → List Tuple
  joined x others = x ∷ flat_map (λ part. part) (filter (meets x) others)

  pub part_of : (xs : List Tuple) (part : List Tuple) (a : Tuple) → Has part (parts near xs) → Has a part → Has a xs
  part_of [] part a there inside = absurd there
  part_of (x ∷ xs) part a (inl e) inside =
      elim (subst (λ p. Has a p) (sym e) inside) [
        | inl first ↦ inl first
        | inr later ↦
            let found = of_joined (λ part. part) a (filter (meets x) (parts near xs)) later in
            inr (part_of xs found.0 a (of_filter (meets x) found.0 (parts near xs) found.1).0 found.2)
      ]
  part_of (x ∷ xs) part a (inr later) inside = inr (part_of xs part a (of_filter (λ p. not (meets x p)) part (parts near xs) later).0 inside)

  pub some_part : (xs : List Tuple) (a : Tuple) → Has a xs → (part : List Tuple) × Has part (parts near xs) × Has a part
  some_part [] a there = absurd there
  some_part (x ∷ xs) a (inl e) = (joined x (parts near xs), inl refl, inl e)
  some_part (x ∷ xs) a (inr later) =
      let others = parts near xs in
      let found = some_part xs a later in
      elim (cases_Bool (meets x found.0)) [
        | inl met ↦ (joined x others, inl refl, inr (flat_has (λ part. part) found.0 a (filter (meets x) others) (filter_has (meets x) found.0 others found.1 met) found.2))
        | inr apart ↦ (found.0, inr (filter_has (λ p. not (meets x p)) found.0 others found.1 (ap not apart)), found.2)
      ]

  abbrev IsEven : Type 0
  IsEven = (a b : Tuple) → near a b ≡ true → near b a ≡ true

  -- a part with a tuple has those that are near to it
  pub near_stay : IsEven → (xs : List Tuple) (a b : Tuple) → Has a xs → Has b xs → near a b ≡ true → (part : List Tuple) → Has part (parts near xs) → Has a part → Has b part
  near_stay even [] a b a_there b_there is part there inside = absurd there
  near_stay even (x ∷ xs) a b a_there b_there is part (inl e) inside =
      let others = parts near xs in
      let met = λ (q : List Tuple) (there : Has q others) (meet : meets x q ≡ true) (b_in : Has b q). flat_has (λ part. part) q b (filter (meets x) others) (filter_has (meets x) q others there meet) b_in in
      subst (λ p. Has b p) e
      (elim b_there [
        | inl same ↦ inl same
        | inr later ↦ inr (elim (subst (λ p. Has a p) (sym e) inside) [
          | inl first ↦
              let found = some_part xs b later in
              met found.0 found.1 (any_has (near x) b found.0 found.2 (ap (λ y. near y b) first ∙ is)) found.2
          | inr merged ↦
              let found = of_joined (λ part. part) a (filter (meets x) others) merged in
              let of = of_filter (meets x) found.0 others found.1 in
              met found.0 of.0 of.1 (near_stay even xs a b (part_of xs found.0 a of.0 found.2) later is found.0 of.0 found.2)
        ])
      ])
  near_stay even (x ∷ xs) a b a_there b_there is part (inr kept) inside =
      let of = of_filter (λ p. not (meets x p)) part (parts near xs) kept in
      elim b_there [
        | inl same ↦
            let meet : meets x part ≡ true = any_has (near x) a part inside (ap (λ y. near y a) same ∙ even a b is) in
            absurd (false≢true (sym (ap not meet) ∙ of.1))
        | inr later ↦ near_stay even xs a b (part_of xs part a of.0 inside) later is part of.0 inside
      ]

  pub in_the_same : IsEven → (xs : List Tuple) (a b : Tuple) → Has a xs → Has b xs → near a b ≡ true → AllByRecursion (λ part. has_tuple part a ≡ has_tuple part b) (parts near xs)
  in_the_same even xs a b a_there b_there is =
      from_each (λ part. has_tuple part a ≡ has_tuple part b) (parts near xs)
      (λ part there. both_ways (has_tuple part a) (has_tuple part b)
      (λ h. there_has part b (near_stay even xs a b a_there b_there is part there (has_there part a h)))
      (λ h. there_has part a (near_stay even xs b a b_there a_there (even a b is) part there (has_there part b h))))

-- tuples in the same parts have one name
pub one_name_beside : (list : List (List Tuple)) (names : List ℕ) (a b : Tuple) → AllByRecursion (λ part. has_tuple part a ≡ has_tuple part b) list → name_beside list names a ≡ name_beside list names b
one_name_beside [] names a b h = refl
one_name_beside (part ∷ more) [] a b h = refl
one_name_beside (part ∷ more) (name ∷ names) a b h =
    let rest = one_name_beside more names a b h.1 in
    λ i. cond (h.0 i) name (rest i)
