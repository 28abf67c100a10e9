-- One list, value or simplex more.
use Rattle.std.proofs.Common.{◌≡◌, ℕ, zero, suc, ◌+◌, ◌-◌, ◌/◌, ◌%◌, ◌^◌, ◌<◌, ◌≤◌, Bool, true, false, cond, nat_lt, List, [], ◌∷◌, ◌++◌, length, filter, take, drop, get_or, None, Some, slice_set, inl, inr, drop-cons, add-one, append_assoc, refl, sym, ap, ◌∙◌, subst, arith, take_all, append-nil, ltb-true}
use Rattle.std.proofs.lemmas.Bool.{lt-ltb}
use Rattle.std.specs.BTreeSet.{insert_key}
use Rattle.std.specs.Ordering.{nat_cmp}
use Rattle.std.specs.Cmp.{nat_cmp_total}
use Rattle.std.proofs.lemmas.List.{take_more, take_more_set, take_rest}
use Rattle.std.proofs.lemmas.List.Filters.{length-filter_more}
use Rattle.std.proofs.Math.Nat.{pow-le-pow_left, pow-le-pow_right, pow-succ', div-lt_iff_lt-mul, mod-lt}
use Rattle.wf_model.specs.Lists.{has, lists_of, in_order, with_element}
use Rattle.wf_model.specs.Presets.{different}
use Rattle.wf_simplex.specs.Order.{nat_cmp-Equal}
use Rattle.wf_simplex.proofs.Lemmas.{Has, has-append, has-append_left, has-append_right, in_order-same, insert_key-with_element}
use Rattle.wf_task_presets.specs.Family.{at_most}
use Rattle.wf_task.proofs.Lemmas.{different-old, different-new, has-list, list-has, list_at, get_or-lists_of, some_lists}

-- so few values have few lists
pub few_lists : (m n : ℕ) → m ≤ 64 → n ≤ 4 → m ^ n ≤ 16777216
few_lists m n few short =
    let wider : m ^ n ≤ 64 ^ n = pow-le-pow_left few n in
    let longer : 64 ^ n ≤ 64 ^ 4 = pow-le-pow_right {n = 64} (omega arith) short in
    omega (arith, wider, longer)

length-filter-take : {X : Type 0} (p : X → Bool) (xs : List X) (i : ℕ) → length (filter p (take i xs)) ≤ length (filter p xs)
length-filter-take p xs zero = omega arith
length-filter-take p [] (suc i) = omega arith
length-filter-take p (x ∷ xs) (suc i) = by (p x) (length-filter-take p xs i)
  where
    by : (b : Bool) → length (filter p (take i xs)) ≤ length (filter p xs) → length (cond b (x ∷ filter p (take i xs)) (filter p (take i xs))) ≤ length (cond b (x ∷ filter p xs) (filter p xs))
    by true h = omega (arith, h)
    by false h = h

at_most-above : (most n : ℕ) → most < n → at_most most n ≡ None
at_most-above most n h = rw (lt-ltb most n h) refl

at_most-within : (most n : ℕ) → n ≤ most → at_most most n ≡ Some n
at_most-within most n h = by (nat_lt most n) refl
  where
    by : (b : Bool) → nat_lt most n ≡ b → cond b None (Some n) ≡ Some n
    by true is = absurd (let l : most < n = ltb-true most n is in (let none : ⊥ = omega (arith, l, h) in none))
    by false is = refl

-- one more than there is room for
pub counted-out : {X : Type 0} (p : X → Bool) (xs : List X) (i left most : ℕ) (d x : X) → i < length xs → x ≡ get_or xs i d → p x ≡ true → left ≡ 0 → left + length (filter p (take i xs)) ≡ most
    → None ≡ at_most most (length (filter p xs))
counted-out {X} p xs i left most d x inside is passes full so_far =
    let next = length-filter_more p xs i d inside in
    let one : cond (p (get_or xs i d)) 1 0 ≡ 1 = ap (λ (y : X). let n : ℕ = cond (p y) 1 0 in n) (sym is) ∙ ap (λ (b : Bool). let n : ℕ = cond b 1 0 in n) passes in
    sym (at_most-above most (length (filter p xs)) (omega (arith, next, one, full, so_far, length-filter-take p xs (i + 1))))

pub counted-all : {X : Type 0} (p : X → Bool) (xs : List X) (i left most : ℕ) → length xs ≤ i → left + length (filter p (take i xs)) ≡ most → Some (most - left) ≡ at_most most (length (filter p xs))
counted-all p xs i left most past so_far =
    let all = ap (λ ys. length (filter p ys)) (take_all i xs past) in
    ap Some (let e : most - left ≡ length (filter p xs) = omega (arith, all, so_far) in e) ∙ sym (at_most-within most (length (filter p xs)) (omega (arith, all, so_far)))

-- ---- the list that has a number

pub rest_below : (m left rest : ℕ) → 0 < left → rest < m ^ left → rest / m ^ (left - 1) < m
rest_below m left rest some h = by left some h
  where
    by : (k : ℕ) → 0 < k → rest < m ^ k → rest / m ^ (k - 1) < m
    by zero none g = absurd (let no_way : ⊥ = omega (arith, none) in no_way)
    by (suc k) positive g =
        let same : suc k - 1 ≡ k = omega arith in
        rw same ((div-lt_iff_lt-mul {k = m ^ k} {x = rest} {y = m} (some_lists m k rest g)).1 (subst (λ w. rest < w) (pow-succ' m k) g))

pub later_some : (m left rest : ℕ) → 0 < left → rest < m ^ left → 0 < m ^ (left - 1)
later_some m zero rest none h = absurd (let no_way : ⊥ = omega (arith, none) in no_way)
later_some m (suc k) rest positive h = let same : suc k - 1 ≡ k = omega arith in rw same (some_lists m k rest h)

pub list_step : (xs : List ℕ) (left rest : ℕ) → 0 < left → list_at xs left rest ≡ get_or xs (rest / length xs ^ (left - 1)) 0 ∷ list_at xs (left - 1) (rest % length xs ^ (left - 1))
list_step xs zero rest none = absurd (let no_way : ⊥ = omega (arith, none) in no_way)
list_step xs (suc k) rest positive = let same : suc k - 1 ≡ k = omega arith in rw same refl

-- one place more, where later is how many lists the later places have
module _ (m size place rest later : ℕ) (is : later ≡ m ^ (size - 1 - place)) (inside : place < size) (h : rest < m ^ (size - place)) where
  later_is : later ≡ m ^ ((size - place) - 1)
  later_is = let same : size - 1 - place ≡ (size - place) - 1 = omega arith in is ∙ ap (λ n. m ^ n) same

  step_left : 0 < size - place
  step_left = omega (arith, inside)

  pub step_some : 0 < later
  step_some = subst (λ w. 0 < w) (sym later_is) (later_some m (size - place) rest step_left h)

  pub step_place : rest / later < m
  step_place = subst (λ w. rest / w < m) (sym later_is) (rest_below m (size - place) rest step_left h)

  pub step_below : rest % later < m ^ (size - (place + 1))
  step_below =
      let same : (size - place) - 1 ≡ size - (place + 1) = omega arith in
      subst (λ w. rest % later < w) (later_is ∙ ap (λ n. m ^ n) same) (mod-lt rest step_some)

pub step_made : (xs row : List ℕ) (size place rest later number : ℕ) → later ≡ length xs ^ (size - 1 - place) → place < size → rest < length xs ^ (size - place) → place < length row
    → take place row ++ list_at xs (size - place) rest ≡ list_at xs size number
    → take (place + 1) (slice_set row place (get_or xs (rest / later) 0)) ++ list_at xs (size - (place + 1)) (rest % later) ≡ list_at xs size number
step_made xs row size place rest later number is inside h short made =
    let same : (size - place) - 1 ≡ size - (place + 1) = omega arith in
    let known = later_is (length xs) size place rest later is inside h in
    let left = step_left (length xs) size place rest later is inside h in
    let next : list_at xs (size - place) rest ≡ get_or xs (rest / later) 0 ∷ list_at xs (size - (place + 1)) (rest % later) =
    list_step xs (size - place) rest left
    ∙ ap (λ w. get_or xs (rest / w) 0 ∷ list_at xs ((size - place) - 1) (rest % w)) (sym known)
    ∙ ap (λ n. get_or xs (rest / later) 0 ∷ list_at xs n (rest % later)) same in
    ap (λ front. front ++ list_at xs (size - (place + 1)) (rest % later)) (take_more_set row place (get_or xs (rest / later) 0) short)
    ∙ append_assoc (take place row) (get_or xs (rest / later) 0 ∷ []) (list_at xs (size - (place + 1)) (rest % later))
    ∙ ap (λ back. take place row ++ back) (sym next) ∙ made

-- all places are made
pub list_made : (xs row : List ℕ) (size place rest number : ℕ) → size ≤ place → place ≤ size → take place row ++ list_at xs (size - place) rest ≡ list_at xs size number → take size row ≡ list_at xs size number
list_made xs row size place rest number past upto made =
    let same : place ≡ size = omega arith in
    let none : size - place ≡ 0 = omega arith in
    ap (λ n. take n row) (sym same) ∙ sym (append-nil (take place row)) ∙ ap (λ n. take place row ++ list_at xs n rest) (sym none) ∙ made

length-list_at : (xs : List ℕ) (n i : ℕ) → length (list_at xs n i) ≡ n
length-list_at xs zero i = refl
length-list_at xs (suc n) i = ap suc (length-list_at xs n (i % (length xs ^ n)))

pub list_long : (xs : List ℕ) (n i : ℕ) → i < length xs ^ n → length (get_or (lists_of xs n) i []) ≡ n
list_long xs n i inside = ap length (get_or-lists_of xs n i inside) ∙ length-list_at xs n i

-- ---- one value, number or simplex more

pub different_step : (xs : List ℕ) (i : ℕ) → i < length xs → different (drop i xs) ≡ cond (has (drop (i + 1) xs) (get_or xs i 0)) 0 1 + different (drop (i + 1) xs)
different_step xs i inside =
    let front : drop i xs ≡ get_or xs i 0 ∷ drop (i + 1) xs = drop-cons xs i 0 inside ∙ ap (λ n. get_or xs i 0 ∷ drop n xs) (sym (add-one i)) in
    ap different front ∙ by (get_or xs i 0) (drop (i + 1) xs) (has (drop (i + 1) xs) (get_or xs i 0)) refl
  where
    by : (x : ℕ) (rest : List ℕ) (b : Bool) → has rest x ≡ b → different (x ∷ rest) ≡ cond b 0 1 + different rest
    by x rest true is = different-old x rest (has-list x rest is) ∙ omega arith
    by x rest false is = different-new x rest (λ h. (let none : true ≡ false = sym (list-has x rest h) ∙ is in cc)) ∙ omega arith

-- one value more is looked at, and counted unless a later one is the same
pub counted_step : (xs : List ℕ) (i count next : ℕ) (b : Bool) → i < length xs → b ≡ has (take (length xs - (i + 1)) (drop (i + 1) xs)) (get_or xs i 0) → next ≡ cond b count (count + 1)
    → count + different (drop i xs) ≡ different xs → next + different (drop (i + 1) xs) ≡ different xs
counted_step xs i count next b inside is then so_far =
    let later : b ≡ has (drop (i + 1) xs) (get_or xs i 0) = is ∙ ap (λ ys. has ys (get_or xs i 0)) (take_rest xs (i + 1)) in
    by b next later then
  where
    by : (b : Bool) (next : ℕ) → b ≡ has (drop (i + 1) xs) (get_or xs i 0) → next ≡ cond b count (count + 1) → next + different (drop (i + 1) xs) ≡ different xs
    by true next later then =
        let step : different (drop i xs) ≡ different (drop (i + 1) xs) = different_step xs i inside ∙ ap (λ c. (let n : ℕ = cond c 0 1 in n) + different (drop (i + 1) xs)) (sym later) ∙ omega arith in
        omega (arith, step, then, so_far)
    by false next later then =
        let step : different (drop i xs) ≡ 1 + different (drop (i + 1) xs) = different_step xs i inside ∙ ap (λ c. (let n : ℕ = cond c 0 1 in n) + different (drop (i + 1) xs)) (sym later) in
        omega (arith, step, then, so_far)

pub value_more : (vs keys new : List ℕ) (i v : ℕ) → i < length vs → v ≡ get_or vs i 0 → keys ≡ in_order nat_cmp (take i vs) → new ≡ insert_key nat_cmp keys v → new ≡ in_order nat_cmp (take (i + 1) vs)
value_more vs keys new i v inside is so_far next =
    next ∙ insert_key-with_element nat_cmp v keys
    ∙ (λ j. with_element nat_cmp (is j) (so_far j))
    ∙ in_order-same nat_cmp nat_cmp_total nat_cmp-Equal (get_or vs i 0 ∷ take i vs) (take i vs ++ get_or vs i 0 ∷ []) forth back
    ∙ ap (in_order nat_cmp) (sym (take_more vs i 0 inside))
  where
    forth : (z : ℕ) → Has z (get_or vs i 0 ∷ take i vs) → Has z (take i vs ++ get_or vs i 0 ∷ [])
    forth z (inl e) = has-append_right z (take i vs) (get_or vs i 0 ∷ []) (inl e)
    forth z (inr h) = has-append_left z (take i vs) (get_or vs i 0 ∷ []) h

    back : (z : ℕ) → Has z (take i vs ++ get_or vs i 0 ∷ []) → Has z (get_or vs i 0 ∷ take i vs)
    back z h = elim (has-append z (take i vs) (get_or vs i 0 ∷ []) h) [ inl old ↦ inr old | inr new' ↦ elim new' [ inl e ↦ inl e | inr none ↦ absurd none ] ]
