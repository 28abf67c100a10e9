-- The order of maps: branches at the first open point stand in order.
use Rattle.std.proofs.Common.{◌≡◌, ℕ, zero, suc, ◌+◌, ◌<◌, ◌≤◌, ◌==◌, ◌⊎◌, Bool, true, false, List, [], ◌∷◌, map, length, get_or, Some, None, nat_lt, position, sym, refl, ◌∙◌, subst, inl, inr, arith, eqb-true, ltb-false}
use Rattle.std.specs.List.{AllByRecursion, AllPairs, position_from}
use Rattle.std.proofs.lemmas.Bool.{cases_Bool, or_cases, false≢true}
use Rattle.std.proofs.lemmas.List.Quantifiers.{position-Some}
use Rattle.std.proofs.lemmas.List.Elements.{All-from_recursion}
use Rattle.std.proofs.lemmas.List.Kept.{AllPairs-cons}
use Rattle.std.proofs.lemmas.Iterator.Adapters.{position_from-zero}
use Rattle.wf_model.specs.Lists.{has, IsBelow}
use Rattle.wf_model.specs.Box.{Box, LiesIn, candidates, decided, branches_at, first_open}
use Rattle.wf_model.proofs.Ascending.{Ascends}
use Rattle.wf_model.proofs.TreesAreSound.{lies_in_branch}

-- ---- below

pub below_itself : (m : List ℕ) → IsBelow m m → ⊥
below_itself [] h = h
below_itself (x ∷ m) (inl less) = absurd (let none : ⊥ = omega (arith, less) in none)
below_itself (x ∷ m) (inr same) = below_itself m same.1

pub below_one_way : (m n : List ℕ) → IsBelow m n → IsBelow n m → ⊥
below_one_way [] n h k = h
below_one_way (x ∷ m) [] h k = h
below_one_way (x ∷ m) (y ∷ n) (inl less) (inl more) = let none : ⊥ = omega (arith, less, more) in none
below_one_way (x ∷ m) (y ∷ n) (inl less) (inr same) = let e : y ≡ x = same.0 in let none : ⊥ = omega (arith, less, e) in none
below_one_way (x ∷ m) (y ∷ n) (inr same) (inl more) = let e : x ≡ y = same.0 in let none : ⊥ = omega (arith, more, e) in none
below_one_way (x ∷ m) (y ∷ n) (inr same) (inr back) = below_one_way m n same.1 back.1

-- ---- one of a list, and each pair of a list

abbrev pub OneOf : {X : Type 0} → (X → Type 0) → List X → Type 0
OneOf P [] = ⊥
OneOf P (x ∷ xs) = P x ⊎ OneOf P xs

abbrev pub EachPair : {X : Type 0} → (X → X → Type 0) → List X → Type 0
EachPair R [] = Unit {0}
EachPair R (x ∷ xs) = AllByRecursion (R x) xs × EachPair R xs

-- what holds of each holds of the one
pub one_with : {X : Type 0} (P Q : X → Type 0) (G : Type 0) (xs : List X) → AllByRecursion Q xs → OneOf P xs → ((x : X) → P x → Q x → G) → G
one_with P Q G [] all h f = absurd h
one_with P Q G (x ∷ xs) all (inl here) f = f x here all.0
one_with P Q G (x ∷ xs) all (inr later) f = one_with P Q G xs all.1 later f

pub all_pairs_from : {X : Type 0} (R : X → X → Type 0) (xs : List X) → EachPair R xs → AllPairs R xs
all_pairs_from R [] h = λ i j d low high. absurd (let none : ⊥ = omega (arith, high) in none)
all_pairs_from R (x ∷ xs) h = AllPairs-cons R x xs (All-from_recursion (R x) xs h.0) (all_pairs_from R xs h.1)

-- ---- the first open point

each_fails : {X : Type 0} (test : X → Bool) (n : ℕ) (xs : List X) → position_from test n xs ≡ None → AllByRecursion (λ x. test x ≡ false) xs
each_fails test n [] h = tt
each_fails test n (x ∷ xs) h =
    elim (cases_Bool (test x)) [
      | inl pass ↦ absurd (let some : Some n ≡ None = rw pass at h in let none : ⊥ = cc in none)
      | inr fail ↦ (fail, each_fails test (n + 1) xs (rw fail at h))
    ]

-- where no element is found, none passes
pub position_none : {X : Type 0} (test : X → Bool) (xs : List X) → position test xs ≡ None → AllByRecursion (λ x. test x ≡ false) xs
position_none test xs h = each_fails test 0 xs (sym (position_from-zero test xs) ∙ h)

not_found : {X : Type 0} (test : X → Bool) (n : ℕ) (xs : List X) → AllByRecursion (λ x. test x ≡ false) xs → position_from test n xs ≡ None
not_found test n [] h = refl
not_found test n (x ∷ xs) h = rw h.0 (not_found test (n + 1) xs h.1)

-- where none passes, none is found
pub position_none_from : {X : Type 0} (test : X → Bool) (xs : List X) → AllByRecursion (λ x. test x ≡ false) xs → position test xs ≡ None
position_none_from test xs h = position_from-zero test xs ∙ not_found test 0 xs h

-- ---- branches

-- all maps in the first are below all maps in the second
abbrev pub Before : Box → Box → Type 0
Before early late = (m n : List ℕ) → LiesIn m early → LiesIn n late → IsBelow m n

pub only : (a x : ℕ) → has (a ∷ []) x ≡ true → a ≡ x
only a x h = elim (or_cases (a == x) false h) [ inl same ↦ eqb-true a x same | inr other ↦ absurd (false≢true other) ]

one_of_few : (set : List ℕ) (x y : ℕ) → length set ≤ 1 → has set x ≡ true → has set y ≡ true → x ≡ y
one_of_few [] x y few h k = absurd (false≢true h)
one_of_few (a ∷ []) x y few h k = sym (only a x h) ∙ only a y k
one_of_few (a ∷ b ∷ set) x y few h k = absurd (let none : ⊥ = omega (arith, few) in none)

pub branch_before : (box : Box) (v a b : ℕ) → a < b → v < length box → ((u : ℕ) → u < v → length (candidates box u) ≤ 1) → Before (decided box v a) (decided box v b)
branch_before [] v a b less within few m n h k = absurd (let none : ⊥ = omega (arith, within) in none)
branch_before (s ∷ box) zero a b less within few [] n h k = absurd h
branch_before (s ∷ box) zero a b less within few (x ∷ m) [] h k = absurd k
branch_before (s ∷ box) zero a b less within few (x ∷ m) (y ∷ n) h k =
    let first : a ≡ x = only a x h.0 in
    let second : b ≡ y = only b y k.0 in
    inl (omega (arith, less, first, second))
branch_before (s ∷ box) (suc v) a b less within few [] n h k = absurd h
branch_before (s ∷ box) (suc v) a b less within few (x ∷ m) [] h k = absurd k
branch_before (s ∷ box) (suc v) a b less within few (x ∷ m) (y ∷ n) h k =
    inr (one_of_few s x y (few 0 (omega arith)) h.0 k.0, branch_before box v a b less (omega (arith, within)) (λ u low. few (suc u) (omega (arith, low))) m n h.1 k.1)

branch_before_each : (box : Box) (v a : ℕ) (values : List ℕ) → AllByRecursion (λ b. a < b) values → v < length box → ((u : ℕ) → u < v → length (candidates box u) ≤ 1) →
    AllByRecursion (Before (decided box v a)) (map (decided box v) values)
branch_before_each box v a [] less within few = tt
branch_before_each box v a (b ∷ values) less within few = (branch_before box v a b less.0 within few, branch_before_each box v a values less.1 within few)

branches_before : (box : Box) (v : ℕ) (values : List ℕ) → Ascends values → v < length box → ((u : ℕ) → u < v → length (candidates box u) ≤ 1) → EachPair Before (map (decided box v) values)
branches_before box v [] up within few = tt
branches_before box v (a ∷ values) up within few = (branch_before_each box v a values up.0 within few, branches_before box v values up.1 within few)

-- the branches at the first open point stand in order
pub branches_in_order : (box : Box) (v : ℕ) → first_open box ≡ Some v → Ascends (candidates box v) → EachPair Before (branches_at box v)
branches_in_order box v is up =
    let there = position-Some (λ (set : List ℕ). nat_lt 1 (length set)) box v [] is in
    branches_before box v (candidates box v) up there.0 (λ u low. ltb-false 1 (length (candidates box u)) (there.2 u low))

-- a map of the box lies in the branch of its value
pub in_one_branch : (m : List ℕ) (box : Box) (v : ℕ) (values : List ℕ) → LiesIn m box → has values (get_or m v 0) ≡ true → OneOf (LiesIn m) (map (decided box v) values)
in_one_branch m box v [] lies h = absurd (false≢true h)
in_one_branch m box v (a ∷ values) lies h =
    elim (or_cases (a == get_or m v 0) (has values (get_or m v 0)) h) [
      | inl here ↦ inl (subst (λ x. LiesIn m (decided box v x)) (sym (eqb-true a (get_or m v 0) here)) (lies_in_branch m box v lies))
      | inr later ↦ inr (in_one_branch m box v values lies later)
    ]

-- a map of a branch lies in the box
pub in_whole : (m : List ℕ) (box : Box) (v a : ℕ) → has (candidates box v) a ≡ true → LiesIn m (decided box v a) → LiesIn m box
in_whole m [] v a h lies = lies
in_whole [] (s ∷ box) zero a h lies = absurd lies
in_whole (x ∷ m) (s ∷ box) zero a h lies = (subst (λ y. has s y ≡ true) (only a x lies.0) h, lies.1)
in_whole [] (s ∷ box) (suc v) a h lies = absurd lies
in_whole (x ∷ m) (s ∷ box) (suc v) a h lies = (lies.0, in_whole m box v a h lies.1)
