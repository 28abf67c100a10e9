-- The first element that passes a test, and the first of its places.
use Rattle.std.proofs.Common.{◌≡◌, ℕ, zero, suc, ◌+◌, ◌<◌, ◌≤◌, List, [], ◌∷◌, length, map, get_or, Bool, true, false, cond, not, Option, Some, None, refl, sym, ◌∙◌, ap, arith, position, nat_lt}
use Rattle.std.specs.Option.{IfSome}
use Rattle.std.specs.List.{prefix_len, range_with_len}
use Rattle.std.proofs.lemmas.Bool.{le-ltb, lt-ltb}
use Rattle.std.proofs.lemmas.List.{length-map}
use Rattle.std.proofs.lemmas.List.Quantifiers.{position-Some}
use Rattle.wf_base.specs.Set.Sets.{box_of, values_in}
use Rattle.wf_report_check.proofs.BlockLemmas.{set_read}
use Rattle.wf_model.specs.Box.{first_open}
use Rattle.wf_model.specs.Problem.{Problem, constraint_at, no_constraint}
use Rattle.wf_model.specs.Limits.{most_number}
use Rattle.wf_model.specs.Check.{first_violated, satisfies}

prefix_of-map : {X Y : Type 0} (f : X → Y) (q : Y → Bool) (xs : List X) → prefix_len (λ y. not (q y)) (map f xs) ≡ prefix_len (λ x. not (q (f x))) xs
prefix_of-map f q [] = refl
prefix_of-map f q (x ∷ xs) = ap (λ n. cond (not (q (f x))) (1 + n) 0) (prefix_of-map f q xs)

position-map : {X Y : Type 0} (f : X → Y) (q : Y → Bool) (xs : List X) → position q (map f xs) ≡ position (λ x. q (f x)) xs
position-map f q xs =
    ap (λ n. cond (nat_lt (prefix_len (λ y. not (q y)) (map f xs)) n) (Some (prefix_len (λ y. not (q y)) (map f xs))) None) (length-map xs f)
    ∙ ap (λ k. cond (nat_lt k (length xs)) (Some k) None) (prefix_of-map f q xs)

-- where a test fails below a place, it first passes there or later
prefix_there : {X : Type 0} (q : X → Bool) (xs : List X) (n : ℕ) (d : X) → n < length xs → ((k : ℕ) → k < n → q (get_or xs k d) ≡ false) → q (get_or xs n d) ≡ true → prefix_len (λ x. not (q x)) xs ≡ n
prefix_there q [] n d low below here = absurd (omega (arith, low))
prefix_there q (x ∷ xs) zero d low below here = ap (λ t. cond (not t) (1 + prefix_len (λ x. not (q x)) xs) 0) here
prefix_there q (x ∷ xs) (suc n) d low below here =
    let next : 1 + n ≡ suc n = omega arith in
    ap (λ t. cond (not t) (1 + prefix_len (λ x. not (q x)) xs) 0) (below 0 (omega arith))
    ∙ ap (λ k. 1 + k) (prefix_there q xs n d (omega (arith, low)) (λ k h. below (suc k) (omega (arith, h))) here)
    ∙ next

prefix_all : {X : Type 0} (q : X → Bool) (xs : List X) (d : X) → ((k : ℕ) → k < length xs → q (get_or xs k d) ≡ false) → prefix_len (λ x. not (q x)) xs ≡ length xs
prefix_all q [] d all = refl
prefix_all q (x ∷ xs) d all =
    let next : 1 + length xs ≡ suc (length xs) = omega arith in
    ap (λ t. cond (not t) (1 + prefix_len (λ x. not (q x)) xs) 0) (all 0 (omega arith))
    ∙ ap (λ k. 1 + k) (prefix_all q xs d (λ k h. all (suc k) (omega (arith, h))))
    ∙ next

-- no point below this one has two candidates
abbrev pub IsSettled : ℕ → List (List ℕ) → Type 0
IsSettled low sets = (v : ℕ) → v < low → v < length sets → nat_lt 1 (length (values_in (get_or sets v []))) ≡ false

pub two_at : (sets : List (List ℕ)) (v : ℕ) (set : List ℕ) → v < length sets → set ≡ get_or sets v set → nat_lt 1 (length (values_in (get_or sets v []))) ≡ nat_lt 1 (length (values_in set))
two_at sets v set low read = ap (λ s. nat_lt 1 (length (values_in s))) (sym (set_read sets v set low read))

pub first_open_is : (sets : List (List ℕ)) (v : ℕ) → v < length sets → IsSettled v sets → nat_lt 1 (length (values_in (get_or sets v []))) ≡ true → first_open (box_of sets) ≡ Some v
first_open_is sets v low below here =
    position-map values_in (λ set. nat_lt 1 (length set)) sets
    ∙ ap (λ k. cond (nat_lt k (length sets)) (Some k) None) (prefix_there (λ set. nat_lt 1 (length (values_in set))) sets v [] low (λ k h. below k h (omega (arith, h, low))) here)
    ∙ ap (λ t. cond t (Some v) None) (lt-ltb v (length sets) low)

pub none_open : (sets : List (List ℕ)) (n : ℕ) → length sets ≤ n → IsSettled n sets → first_open (box_of sets) ≡ None
none_open sets n all below =
    position-map values_in (λ set. nat_lt 1 (length set)) sets
    ∙ ap (λ k. cond (nat_lt k (length sets)) (Some k) None) (prefix_all (λ set. nat_lt 1 (length (values_in set))) sets [] (λ k h. below k (omega (arith, h, all)) h))
    ∙ ap (λ t. cond t (Some (length sets)) None) (le-ltb (length sets) (length sets) (omega arith))

run_is : {X : Type 0} (f : ℕ → X) (a : ℕ) (xs : List X) (d : X) → ((i : ℕ) → i < length xs → f (a + i) ≡ get_or xs i d) → map f (range_with_len a (length xs)) ≡ xs
run_is f a [] d same = refl
run_is f a (x ∷ xs) d same =
    let first : a + 0 ≡ a = omega arith in
    (λ j. (sym (ap f first) ∙ same 0 (omega arith)) j ∷ run_is f (a + 1) xs d (λ i low. let next : a + 1 + i ≡ a + suc i = omega arith in ap f next ∙ same (suc i) (omega (arith, low))) j)

-- the first execution that is violated, by the numbers of the executions
pub first_by_number : (p : Problem) (m : List ℕ) (n : ℕ) → n ≡ length p.constraints → position (λ e. not (satisfies m (constraint_at p e))) (range_with_len 0 n) ≡ first_violated p m
first_by_number p m n long =
    ap (λ k. position (λ e. not (satisfies m (constraint_at p e))) (range_with_len 0 k)) long
    ∙ sym (position-map (constraint_at p) (λ k. not (satisfies m k)) (range_with_len 0 (length p.constraints)))
    ∙ ap (position (λ k. not (satisfies m k))) (run_is (constraint_at p) 0 p.constraints no_constraint (λ i low. let e : 0 + i ≡ i = omega arith in ap (constraint_at p) e))

-- and it is one of them
pub few_found : (p : Problem) (m : List ℕ) (found : Option ℕ) → found ≡ first_violated p m → length p.constraints ≤ 500000 → IfSome found (λ e. e ≤ most_number)
few_found p m None is few = tt
few_found p m (Some e) is few =
    let low = (position-Some (λ k. not (satisfies m k)) p.constraints e no_constraint (sym is)).0 in
    omega (arith, low, few)
