-- Numbers of a table without doubles: different numbers are different views,
-- and first places are first views.
use Rattle.std.proofs.Common.{◌≡◌, ◌<◌, ◌≤◌, ℕ, zero, suc, ◌+◌, ◌==◌, Bool, true, not, cond, List, [], ◌∷◌, map, filter, length, slice_index, All, sym, refl, ap, ◌∙◌, subst, arith, eqb-true, eq-eqb}
use Rattle.std.specs.List.{AllByRecursion, AllPairs, range_with_len}
use Rattle.std.specs.Cmp.{both_ways}
use Rattle.std.proofs.lemmas.List.{length-map}
use Rattle.std.proofs.lemmas.List.Elements.{recursion_from_All, All-from_recursion, All-get_or}
use Rattle.std.proofs.lemmas.List.FromFn.{length-range_with_len}
use Rattle.wf_model.specs.Lists.{distinct, below}
use Rattle.wf_model.specs.View.{View, same_view}
use Rattle.wf_model.specs.Problem.{number_of}
use Rattle.wf_model.proofs.Lemmas.{by_place, same_itself, same_is, weaker, Ascends, ascends_filter, each_distinct, each_filter, each_map, Apart, apart_distinct, map_distinct, length_filter}
use Rattle.std.proofs.lemmas.List.Kept.{AllPairs-cons}
use Rattle.wf_complex.specs.Views.{view_at}
use Rattle.wf_complex.proofs.Ranked.{number_of-at}
use Rattle.wf_complex.specs.Rounds.{views_at}
use Rattle.wf_complex.specs.Numbering.{same_at, first_places}
use Rattle.std.proofs.lemmas.Simd.{map-map}

pub all_in_range : (a n m : ℕ) → a + n ≤ m → AllByRecursion (λ j. j < m) (range_with_len a n)
all_in_range a zero m h = tt
all_in_range a (suc n) m h = (omega (arith, h), all_in_range (a + 1) n m (omega (arith, h)))

-- ---- two tests that agree

filter_agrees : {X : Type 0} (p q : X → Bool) (xs : List X) → AllByRecursion (λ x. p x ≡ q x) xs → filter p xs ≡ filter q xs
filter_agrees p q [] h = refl
filter_agrees p q (x ∷ xs) h = λ i. cond (h.0 i) (x ∷ filter_agrees p q xs h.1 i) (filter_agrees p q xs h.1 i)

module _ {X : Type 0} (same other : X → X → Bool) (P : X → Type 0) (agree : (x y : X) → P x → P y → same x y ≡ other x y) where
  each_agrees : (x : X) → P x → (ys : List X) → AllByRecursion P ys → AllByRecursion (λ y. not (same x y) ≡ not (other x y)) ys
  each_agrees x h [] k = tt
  each_agrees x h (y ∷ ys) k = (ap not (agree x y h k.0), each_agrees x h ys k.1)

  pub distinct_agrees : (xs : List X) → AllByRecursion P xs → distinct same xs ≡ distinct other xs
  distinct_agrees [] h = refl
  distinct_agrees (x ∷ xs) h =
      ap (λ ys. x ∷ ys)
      (ap (filter (λ y. not (same x y))) (distinct_agrees xs h.1)
      ∙ filter_agrees (λ y. not (same x y)) (λ y. not (other x y)) (distinct other xs) (each_agrees x h.0 (distinct other xs) (each_distinct P other xs h.1)))

-- the different ones of a list whose elements are told apart as numbers are, place by place
pub distinct_by_place : {X : Type 0} (f : ℕ → X) (same : X → X → Bool) (ids : List ℕ) → ((i j : ℕ) → i < length ids → j < length ids → same (f i) (f j) ≡ same_at ids i j) →
    distinct same (map f (below (length ids))) ≡ map f (first_places ids (length ids))
distinct_by_place f same ids agree =
    sym (map_distinct f same (below (length ids)))
    ∙ ap (map f) (distinct_agrees (λ i j. same (f i) (f j)) (same_at ids) (λ j. j < length ids) (λ i j h k. agree i j h k) (below (length ids)) (all_in_range 0 (length ids) (length ids) (omega arith)))

pub length-distinct : {X : Type 0} (same : X → X → Bool) (xs : List X) → length (distinct same xs) ≤ length xs
length-distinct same [] = omega arith
length-distinct same (x ∷ xs) = omega (arith, length_filter (λ y. not (same x y)) (distinct same xs), length-distinct same xs)

length-first_places : (ids : List ℕ) (n : ℕ) → length (first_places ids n) ≤ n
length-first_places ids n = omega (arith, length-distinct (same_at ids) (below n), length-range_with_len 0 n)

first_places_low : (ids : List ℕ) → AllByRecursion (λ j. j < length ids) (first_places ids (length ids))
first_places_low ids = each_distinct (λ j. j < length ids) (same_at ids) (below (length ids)) (all_in_range 0 (length ids) (length ids) (omega arith))

-- each number stands first at a place of the list
pub firsts_low : (ids firsts : List ℕ) → firsts ≡ first_places ids (length ids) → All (λ j. j < length ids) firsts
firsts_low ids firsts first = subst (All (λ j. j < length ids)) (sym first) (All-from_recursion (λ j. j < length ids) (first_places ids (length ids)) (first_places_low ids))

-- the different ones of ascending numbers ascend
ascends_distinct : (same : ℕ → ℕ → Bool) (xs : List ℕ) → Ascends xs → Ascends (distinct same xs)
ascends_distinct same [] h = tt
ascends_distinct same (x ∷ xs) h =
    let test : ℕ → Bool = λ y. not (same x y) in
    (each_filter (λ y. x < y) test (distinct same xs) (each_distinct (λ y. x < y) same xs h.0), ascends_filter test (distinct same xs) (ascends_distinct same xs h.1))

all_above : (x a n : ℕ) → x < a → AllByRecursion (λ j. x < j) (range_with_len a n)
all_above x a zero h = tt
all_above x a (suc n) h = (h, all_above x (a + 1) n (omega (arith, h)))

range_ascends : (a n : ℕ) → Ascends (range_with_len a n)
range_ascends a zero = tt
range_ascends a (suc n) = (all_above a (a + 1) n (omega arith), range_ascends (a + 1) n)

pairs_from : (xs : List ℕ) → Ascends xs → AllPairs (λ x y. x < y) xs
pairs_from [] h = λ i j d less inside. absurd (let none : ⊥ = omega (arith, inside) in none)
pairs_from (x ∷ xs) h = AllPairs-cons (λ x y. x < y) x xs (All-from_recursion (λ y. x < y) xs h.0) (pairs_from xs h.1)

pub firsts_ascend : (ids firsts : List ℕ) → firsts ≡ first_places ids (length ids) → AllPairs (λ i j. i < j) firsts
firsts_ascend ids firsts first =
    subst (AllPairs (λ i j. i < j)) (sym first) (pairs_from (first_places ids (length ids)) (ascends_distinct (same_at ids) (below (length ids)) (range_ascends 0 (length ids))))

pub few_firsts : (ids firsts : List ℕ) → firsts ≡ first_places ids (length ids) → length firsts ≤ length ids
few_firsts ids firsts first = omega (arith, ap length first, length-first_places ids (length ids))

-- what holds of all numbers of a list holds of those at some places
pub all_picked : (P : ℕ → Type 0) (ids places : List ℕ) → All P ids → All (λ j. j < length ids) places → All P (map (λ j. slice_index ids j) places)
all_picked P ids places h low =
    All-from_recursion P (map (λ j. slice_index ids j) places)
    (each_map P (λ j. slice_index ids j) places
    (weaker (λ j. j < length ids) (λ j. P (slice_index ids j)) (λ j k. All-get_or P ids j 0 k h) places (recursion_from_All (λ j. j < length ids) places low)))

-- ---- a table without doubles

abbrev pub IsOnce : List View → Type 0
IsOnce table = distinct same_view table ≡ table

pub apart_once : (table : List View) → IsOnce table → Apart table
apart_once table once = subst Apart once (apart_distinct table)

-- views are told apart by their numbers
pub same_by_number : (table : List View) → Apart table → (i j : ℕ) → i < length table → j < length table → same_view (view_at table i) (view_at table j) ≡ (i == j)
same_by_number table apart i j h k =
    both_ways (same_view (view_at table i) (view_at table j)) (i == j)
    (λ same. eq-eqb i j (sym (number_of-at table i apart h) ∙ ap (number_of table) (same_is (view_at table i) (view_at table j) same) ∙ number_of-at table j apart k))
    (λ same. subst (λ n. same_view (view_at table i) (view_at table n) ≡ true) (eqb-true i j same) (same_itself (view_at table i)))

module _ (table : List View) (once : IsOnce table) (ids : List ℕ) (within : All (λ k. k < length table) ids) where
  pub there : (i : ℕ) → i < length ids → slice_index ids i < length table
  there i h = All-get_or (λ k. k < length table) ids i 0 h within

  pub agree_there : (i j : ℕ) → i < length ids → j < length ids → same_view (view_at table (slice_index ids i)) (view_at table (slice_index ids j)) ≡ same_at ids i j
  agree_there i j h k = same_by_number table (apart_once table once) (slice_index ids i) (slice_index ids j) (there i h) (there j k)

  -- the different views of these numbers are those at the first places
  pub distinct_views : distinct same_view (views_at table ids) ≡ views_at table (map (λ j. slice_index ids j) (first_places ids (length ids)))
  distinct_views =
      ap (λ xs. distinct same_view (views_at table xs)) (sym (by_place ids 0))
      ∙ ap (distinct same_view) (map-map (view_at table) (λ j. slice_index ids j) (below (length ids)))
      ∙ distinct_by_place (λ j. view_at table (slice_index ids j)) same_view ids agree_there
      ∙ sym (map-map (view_at table) (λ j. slice_index ids j) (first_places ids (length ids)))

  pub length-distinct_views : length (distinct same_view (views_at table ids)) ≡ length (first_places ids (length ids))
  length-distinct_views =
      ap length distinct_views
      ∙ length-map (map (λ j. slice_index ids j) (first_places ids (length ids))) (view_at table)
      ∙ length-map (first_places ids (length ids)) (λ j. slice_index ids j)
