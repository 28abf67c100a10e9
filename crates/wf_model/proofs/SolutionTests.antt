-- The tests for solutions, and all solutions by trying each list of values.
use Rattle.std.proofs.Common.{◌≡◌, ℕ, zero, suc, ◌<◌, ◌==◌, ◌↔◌, ◌⊎◌, Bool, true, false, not, cond, List, [], ◌∷◌, ◌++◌, map, filter, flat_map, replicate, length, get_or, option_map, Option, Some, None, Contains, sym, refl, ap, ◌∙◌, subst, inl, inr, arith, eqb-true, eq-eqb}
use Rattle.std.specs.List.{AllByRecursion, list_all}
use Rattle.std.specs.Cmp.Lexicographic.{pointwise, pointwise_decides}
use Rattle.std.proofs.lemmas.Bool.{cases_Bool, or_cases, or_left, or_right, and_parts, and_from, not-false, not_from_true, false≢true}
use Rattle.std.proofs.lemmas.List.Elements.{recursion_from_All, All-from_recursion}
use Rattle.std.proofs.lemmas.List.Folds.{Any-from_list_any, list_any_at}
use Rattle.std.proofs.Math.ListN.{length-replicate}
use Rattle.wf_model.specs.Lists.{has, lists_of}
use Rattle.wf_model.specs.Problem.{Problem, Constraint, IsSolution, Satisfies, values_at}
use Rattle.wf_model.specs.Box.{LiesIn, root}
use Rattle.wf_model.specs.Check.{wrong_length, violates, satisfies, first_violated, map_fault}
use Rattle.wf_model.specs.AllSolutions.{all_solutions}
use Rattle.wf_model.proofs.MapsAreSolutions.{weaker}
use Rattle.wf_model.proofs.TreesAreSound.{long_as}
use Rattle.wf_model.proofs.Order.{OneOf, position_none, position_none_from}

-- ---- one constraint

same_values : (xs ys : List ℕ) → (pointwise (λ x y. x == y) xs ys ≡ true → xs ≡ ys) × (xs ≡ ys → pointwise (λ x y. x == y) xs ys ≡ true)
same_values = pointwise_decides (λ x y. (eqb-true x y, eq-eqb x y))

-- the test for one constraint
pub satisfies_says : (m : List ℕ) (k : Constraint) → satisfies m k ≡ true → Satisfies m k
satisfies_says m k h =
    let found = Any-from_list_any (pointwise (λ x y. x == y) (values_at m k.scope)) k.tuples h in
    let same : values_at m k.scope ≡ found.1 = (same_values (values_at m k.scope) found.1).0 found.4 in
    subst (Contains k.tuples) (sym same) (found.0, found.2, found.3)

pub satisfies_tests : (m : List ℕ) (k : Constraint) → Satisfies m k → satisfies m k ≡ true
satisfies_tests m k (i, below, is) =
    list_any_at (pointwise (λ x y. x == y) (values_at m k.scope)) k.tuples i (values_at m k.scope) below
    ((same_values (values_at m k.scope) (get_or k.tuples i (values_at m k.scope))).1 (sym is))

-- ---- all constraints

each_passes : {X : Type 0} (test : X → Bool) (xs : List X) → list_all test xs ≡ true → AllByRecursion (λ x. test x ≡ true) xs
each_passes test [] h = tt
each_passes test (x ∷ xs) h = let parts = and_parts (test x) (list_all test xs) h in (parts.0, each_passes test xs parts.1)

all_pass : {X : Type 0} (test : X → Bool) (xs : List X) → AllByRecursion (λ x. test x ≡ true) xs → list_all test xs ≡ true
all_pass test [] h = refl
all_pass test (x ∷ xs) h = and_from (test x) _ h.0 (all_pass test xs h.1)

-- ---- lists of values

-- the list is one of these
abbrev IsOneOf : List (List ℕ) → List ℕ → Type 0
IsOneOf lists m = OneOf (λ l. l ≡ m) lists

one_left : (xs ys : List (List ℕ)) (m : List ℕ) → IsOneOf xs m → IsOneOf (xs ++ ys) m
one_left [] ys m h = absurd h
one_left (x ∷ xs) ys m (inl here) = inl here
one_left (x ∷ xs) ys m (inr later) = inr (one_left xs ys m later)

one_right : (xs ys : List (List ℕ)) (m : List ℕ) → IsOneOf ys m → IsOneOf (xs ++ ys) m
one_right [] ys m h = h
one_right (x ∷ xs) ys m h = inr (one_right xs ys m h)

one_side : (xs ys : List (List ℕ)) (m : List ℕ) → IsOneOf (xs ++ ys) m → IsOneOf xs m ⊎ IsOneOf ys m
one_side [] ys m h = inr h
one_side (x ∷ xs) ys m (inl here) = inl (inl here)
one_side (x ∷ xs) ys m (inr later) = in_front (one_side xs ys m later)
  where
    in_front : IsOneOf xs m ⊎ IsOneOf ys m → IsOneOf (x ∷ xs) m ⊎ IsOneOf ys m
    in_front (inl h) = inl (inr h)
    in_front (inr h) = inr h

put_in_front : (a : ℕ) (lists : List (List ℕ)) (m : List ℕ) → IsOneOf lists m → IsOneOf (map (λ rest. a ∷ rest) lists) (a ∷ m)
put_in_front a [] m h = absurd h
put_in_front a (l ∷ lists) m (inl here) = inl (ap (λ rest. a ∷ rest) here)
put_in_front a (l ∷ lists) m (inr later) = inr (put_in_front a lists m later)

taken_off : (a x : ℕ) (lists : List (List ℕ)) (m : List ℕ) → IsOneOf (map (λ rest. a ∷ rest) lists) (x ∷ m) → (a ≡ x) × IsOneOf lists m
taken_off a x [] m h = absurd h
taken_off a x (l ∷ lists) m (inl here) = (let e : a ≡ x = cc in e, inl (let e : l ≡ m = cc in e))
taken_off a x (l ∷ lists) m (inr later) = let rest = taken_off a x lists m later in (rest.0, inr rest.1)

not_empty : (a : ℕ) (lists : List (List ℕ)) → IsOneOf (map (λ rest. a ∷ rest) lists) [] → ⊥
not_empty a [] h = h
not_empty a (l ∷ lists) (inl here) = let none : ⊥ = cc in none
not_empty a (l ∷ lists) (inr later) = not_empty a lists later

front_has : (values : List ℕ) (a : ℕ) (lists : List (List ℕ)) (m : List ℕ) → has values a ≡ true → IsOneOf lists m → IsOneOf (flat_map (λ x. map (λ rest. x ∷ rest) lists) values) (a ∷ m)
front_has [] a lists m h one = absurd (false≢true h)
front_has (x ∷ values) a lists m h one =
    elim (or_cases (x == a) (has values a) h) [
      | inl here ↦ one_left (map (λ rest. x ∷ rest) lists) (flat_map (λ y. map (λ rest. y ∷ rest) lists) values) (a ∷ m)
          (subst (λ y. IsOneOf (map (λ rest. y ∷ rest) lists) (a ∷ m)) (sym (eqb-true x a here)) (put_in_front a lists m one))
      | inr later ↦ one_right (map (λ rest. x ∷ rest) lists) (flat_map (λ y. map (λ rest. y ∷ rest) lists) values) (a ∷ m) (front_has values a lists m later one)
    ]

has_front : (values : List ℕ) (a : ℕ) (lists : List (List ℕ)) (m : List ℕ) → IsOneOf (flat_map (λ x. map (λ rest. x ∷ rest) lists) values) (a ∷ m) → (has values a ≡ true) × IsOneOf lists m
has_front [] a lists m h = absurd h
has_front (x ∷ values) a lists m h = by_side (one_side (map (λ rest. x ∷ rest) lists) (flat_map (λ y. map (λ rest. y ∷ rest) lists) values) (a ∷ m) h) (has_front values a lists m)
  where
    by_side : IsOneOf (map (λ rest. x ∷ rest) lists) (a ∷ m) ⊎ IsOneOf (flat_map (λ y. map (λ rest. y ∷ rest) lists) values) (a ∷ m) →
        (IsOneOf (flat_map (λ y. map (λ rest. y ∷ rest) lists) values) (a ∷ m) → (has values a ≡ true) × IsOneOf lists m) → (has (x ∷ values) a ≡ true) × IsOneOf lists m
    by_side (inl here) next = let parts = taken_off x a lists m here in (or_left (x == a) (has values a) (eq-eqb x a parts.0), parts.1)
    by_side (inr later) next = let parts = next later in (or_right (x == a) (has values a) parts.0, parts.1)

never_empty : (values : List ℕ) (lists : List (List ℕ)) → IsOneOf (flat_map (λ x. map (λ rest. x ∷ rest) lists) values) [] → ⊥
never_empty [] lists h = h
never_empty (x ∷ values) lists h = by_side (one_side (map (λ rest. x ∷ rest) lists) (flat_map (λ y. map (λ rest. y ∷ rest) lists) values) [] h) (never_empty values lists)
  where
    by_side : IsOneOf (map (λ rest. x ∷ rest) lists) [] ⊎ IsOneOf (flat_map (λ y. map (λ rest. y ∷ rest) lists) values) [] → (IsOneOf (flat_map (λ y. map (λ rest. y ∷ rest) lists) values) [] → ⊥) → ⊥
    by_side (inl here) next = not_empty x lists here
    by_side (inr later) next = next later

-- the lists of n values are those that lie in n sets of the values
lists_all : (values : List ℕ) (n : ℕ) (m : List ℕ) → LiesIn m (replicate n values) → IsOneOf (lists_of values n) m
lists_all values zero [] h = inl refl
lists_all values zero (a ∷ m) h = absurd h
lists_all values (suc n) [] h = absurd h
lists_all values (suc n) (a ∷ m) h = front_has values a (lists_of values n) m h.0 (lists_all values n m h.1)

lists_lie : (values : List ℕ) (n : ℕ) (m : List ℕ) → IsOneOf (lists_of values n) m → LiesIn m (replicate n values)
lists_lie values zero [] h = tt
lists_lie values zero (a ∷ m) (inl here) = absurd (let none : ⊥ = cc in none)
lists_lie values zero (a ∷ m) (inr later) = absurd later
lists_lie values (suc n) [] h = absurd (never_empty values (lists_of values n) h)
lists_lie values (suc n) (a ∷ m) h = let parts = has_front values a (lists_of values n) m h in (parts.0, lists_lie values n m parts.1)

one_filtered : (test : List ℕ → Bool) (xs : List (List ℕ)) (m : List ℕ) → IsOneOf xs m → test m ≡ true → IsOneOf (filter test xs) m
one_filtered test [] m h pass = absurd h
one_filtered test (x ∷ xs) m (inl here) pass = let same : test x ≡ true = ap test here ∙ pass in rw same (inl here)
one_filtered test (x ∷ xs) m (inr later) pass =
    elim (cases_Bool (test x)) [ inl yes' ↦ rw yes' (inr (one_filtered test xs m later pass)) | inr no' ↦ rw no' (one_filtered test xs m later pass) ]

filtered_one : (test : List ℕ → Bool) (xs : List (List ℕ)) (m : List ℕ) → IsOneOf (filter test xs) m → IsOneOf xs m × (test m ≡ true)
filtered_one test [] m h = absurd h
filtered_one test (x ∷ xs) m h = by_test (test x) refl h (filtered_one test xs m)
  where
    by_test : (b : Bool) → test x ≡ b → IsOneOf (cond b (x ∷ filter test xs) (filter test xs)) m → (IsOneOf (filter test xs) m → IsOneOf xs m × (test m ≡ true)) → IsOneOf (x ∷ xs) m × (test m ≡ true)
    by_test true is (inl here) next = (inl here, ap test (sym here) ∙ is)
    by_test true is (inr later) next = let rest = next later in (inr rest.0, rest.1)
    by_test false is h next = let rest = next h in (inr rest.0, rest.1)

contains_from : (xs : List (List ℕ)) (m : List ℕ) → IsOneOf xs m → Contains xs m
contains_from [] m h = absurd h
contains_from (x ∷ xs) m (inl here) = (0, omega arith, here)
contains_from (x ∷ xs) m (inr later) = let rest = contains_from xs m later in (suc rest.0, omega (arith, rest.1), rest.2)

from_contains : (xs : List (List ℕ)) (m : List ℕ) (k : ℕ) → k < length xs → get_or xs k m ≡ m → IsOneOf xs m
from_contains [] m k within is = absurd (let none : ⊥ = omega (arith, within) in none)
from_contains (x ∷ xs) m zero within is = inl is
from_contains (x ∷ xs) m (suc k) within is = inr (from_contains xs m k (omega (arith, within)) is)

-- ---- all solutions

module _ (p : Problem) (m : List ℕ) where
  solves_from : length m ≡ p.points → list_all (satisfies m) p.constraints ≡ true → IsSolution p m
  solves_from long h = record {
    long = long;
    satisfies = All-from_recursion _ p.constraints (weaker (λ k. satisfies m k ≡ true) (Satisfies m) (satisfies_says m) p.constraints (each_passes (satisfies m) p.constraints h));
  }

  solves_tests : IsSolution p m → list_all (satisfies m) p.constraints ≡ true
  solves_tests solves = all_pass (satisfies m) p.constraints (weaker (Satisfies m) (λ k. satisfies m k ≡ true) (satisfies_tests m) p.constraints (recursion_from_All _ p.constraints solves.satisfies))

  -- the solutions in the root are all there, and nothing else
  pub tried : Contains (all_solutions p) m ↔ (IsSolution p m × LiesIn m (root p))
  tried = (only, all)
    where
      only : Contains (all_solutions p) m → IsSolution p m × LiesIn m (root p)
      only (k, within, is) =
          let parts = filtered_one (λ l. list_all (satisfies l) p.constraints) (lists_of p.values p.points) m (from_contains (all_solutions p) m k within is) in
          let lies = lists_lie p.values p.points m parts.0 in
          (solves_from (long_as m (root p) lies ∙ length-replicate p.points p.values) parts.1, lies)

      all : IsSolution p m × LiesIn m (root p) → Contains (all_solutions p) m
      all (solves, lies) =
          contains_from (all_solutions p) m (one_filtered (λ l. list_all (satisfies l) p.constraints) (lists_of p.values p.points) m (lists_all p.values p.points m lies) (solves_tests solves))

  -- ---- a map's fault

  -- a list of values has no fault exactly where it is a solution
  pub faultless : (map_fault p m ≡ None) ↔ IsSolution p m
  faultless = (only, all)
    where
      none_violated : (o : Option ℕ) → option_map violates o ≡ None → o ≡ None
      none_violated None h = refl
      none_violated (Some e) h = absurd (let none : ⊥ = cc in none)

      only : map_fault p m ≡ None → IsSolution p m
      only h =
          elim (cases_Bool (length m == p.points)) [
            | inl long ↦ solves_from (eqb-true (length m) p.points long) (all_pass (satisfies m) p.constraints
                (weaker (λ k. not (satisfies m k) ≡ false) (λ k. satisfies m k ≡ true) (λ k. not-false (satisfies m k)) p.constraints
                (position_none (λ k. not (satisfies m k)) p.constraints (none_violated (first_violated p m) (rw long at h)))))
            | inr short ↦ absurd (let some : Some wrong_length ≡ None = rw short at h in let none : ⊥ = cc in none)
          ]

      all : IsSolution p m → map_fault p m ≡ None
      all solves =
          rw (eq-eqb (length m) p.points solves.long)
          (ap (option_map violates) (position_none_from (λ k. not (satisfies m k)) p.constraints
          (weaker (λ k. satisfies m k ≡ true) (λ k. not (satisfies m k) ≡ false) (λ k. not_from_true (satisfies m k)) p.constraints (each_passes (satisfies m) p.constraints (solves_tests solves)))))
