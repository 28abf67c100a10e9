-- Lists of so many elements: how many, in which order, and which.
use Rattle.std.proofs.Common.{◌≡◌, ℕ, zero, suc, ◌+◌, ◌*◌, ◌/◌, ◌%◌, ◌^◌, ◌<◌, ◌≤◌, Bool, true, false, List, [], ◌∷◌, ◌++◌, length, map, flat_map, take, get_or, nat_lt, inl, inr, refl, sym, ap, ◌∙◌, subst, arith, ltb-true, length-append}
use Rattle.std.specs.List.{AllByRecursion, range_with_len}
use Rattle.std.specs.List.Sorted.{IsStrictlySortedBy}
use Rattle.std.specs.declared.cmp.Ordering.{Ordering}
use Rattle.std.specs.declared.cmp.Ordering.TheVariants.{Less, Equal}
use Rattle.std.specs.Ordering.{nat_cmp, ordering_then}
use Rattle.std.specs.Cmp.{IsTotalOrder, nat_cmp_total, tied_itself}
use Rattle.std.specs.Cmp.Lexicographic.{slice_cmp}
use Rattle.std.proofs.Math.Nat.{zero-mul, suc-mul, pow-zero, pow-succ', div-lt_iff_lt-mul, div-add-mod', mod-lt}
use Rattle.std.proofs.lemmas.List.{length-map, get_or-map, length-take-le}
use Rattle.std.proofs.lemmas.List.Concat.{get_or-flat_map}
use Rattle.wf_model.specs.Lists.{below, lists_of}
use Rattle.wf_model.proofs.Lemmas.{weaker, each_append, each_map, each_flat, always, nat_cmp-Less}
use Rattle.wf_simplex.proofs.Lemmas.{Has, begins, has-flat_map, flat_map-has, map-has}

-- ---- how many

pub length-pieces : {X Y : Type 0} (f : X → List Y) (w : ℕ) (xs : List X) → ((x : X) → length (f x) ≡ w) → length (flat_map f xs) ≡ length xs * w
length-pieces f w [] each = sym (zero-mul w)
length-pieces f w (x ∷ xs) each =
    length-append (f x) (flat_map f xs) ∙ omega (arith, each x, length-pieces f w xs each, suc-mul (length xs) w)

pub length-lists_of : {X : Type 0} (xs : List X) (n : ℕ) → length (lists_of xs n) ≡ length xs ^ n
length-lists_of xs zero = sym (pow-zero (length xs))
length-lists_of xs (suc n) =
    length-pieces (λ x. map (λ rest. x ∷ rest) (lists_of xs n)) (length xs ^ n) xs (λ x. length-map (lists_of xs n) (λ rest. x ∷ rest) ∙ length-lists_of xs n)
    ∙ sym (pow-succ' (length xs) n)

-- ---- the list that has a number

abbrev pub list_at : List ℕ → ℕ → ℕ → List ℕ
list_at xs zero i = []
list_at xs (suc n) i = get_or xs (i / (length xs ^ n)) 0 ∷ list_at xs n (i % (length xs ^ n))

-- lists of this many are there, so it is not zero
pub some_lists : (m n i : ℕ) → i < m ^ suc n → 0 < m ^ n
some_lists m n i h = by (m ^ n) refl
  where
    by : (w : ℕ) → m ^ n ≡ w → 0 < w
    by zero is = absurd (let none : ⊥ = omega (arith, h, pow-succ' m n ∙ ap (λ w. m * w) is) in none)
    by (suc w) is = omega arith

pub get_or-lists_of : (xs : List ℕ) (n i : ℕ) → i < length xs ^ n → get_or (lists_of xs n) i [] ≡ list_at xs n i
get_or-lists_of xs zero zero h = refl
get_or-lists_of xs zero (suc i) h = refl
get_or-lists_of xs (suc n) i h =
    let w = length xs ^ n in
    let pieces : ℕ → List (List ℕ) = λ x. map (λ rest. x ∷ rest) (lists_of xs n) in
    let some : 0 < w = some_lists (length xs) n i h in
    let place : i / w < length xs = (div-lt_iff_lt-mul {k = w} {x = i} {y = length xs} some).1 (subst (λ k. i < k) (pow-succ' (length xs) n) h) in
    let inner : i % w < length (lists_of xs n) = subst (λ k. i % w < k) (sym (length-lists_of xs n)) (mod-lt i some) in
    let before : length (flat_map pieces (take (i / w) xs)) ≡ (i / w) * w =
    length-pieces pieces w (take (i / w) xs) (λ x. length-map (lists_of xs n) (λ rest. x ∷ rest) ∙ length-lists_of xs n)
    ∙ ap (λ k. k * w) (length-take-le (i / w) xs (omega (arith, place))) in
    let whole : length (flat_map pieces (take (i / w) xs)) + i % w ≡ i = omega (arith, before, div-add-mod' i w) in
    let at : i % w < length (pieces (get_or xs (i / w) 0)) = omega (arith, inner, length-map (lists_of xs n) (λ rest. get_or xs (i / w) 0 ∷ rest)) in
    ap (λ k. get_or (lists_of xs (suc n)) k []) (sym whole)
    ∙ get_or-flat_map pieces xs (i / w) (i % w) 0 [] place at
    ∙ get_or-map (λ rest. get_or xs (i / w) 0 ∷ rest) (lists_of xs n) (i % w) [] [] inner
    ∙ ap (λ rest. get_or xs (i / w) 0 ∷ rest) (get_or-lists_of xs n (i % w) (subst (λ k. i % w < k) (length-lists_of xs n) inner))

-- ---- in order

module _ {X : Type 0} (cmp : X → X → Ordering) where
  sorted-append : (xs ys : List X) → IsStrictlySortedBy cmp xs → IsStrictlySortedBy cmp ys → AllByRecursion (λ x. AllByRecursion (λ y. cmp x y ≡ Less) ys) xs → IsStrictlySortedBy cmp (xs ++ ys)
  unfolding IsStrictlySortedBy
  sorted-append [] ys h g b = g
  sorted-append (x ∷ xs) ys h g b = (each_append (λ y. cmp x y ≡ Less) xs ys h.0 b.0, sorted-append xs ys h.1 g b.1)

module _ {X Y Z : Type 0} (a : X → X → Ordering) (b : Y → Y → Ordering) (c : Z → Z → Ordering) (pair : X → Y → Z)
    (first : (x u : X) (y v : Y) → a x u ≡ Less → c (pair x y) (pair u v) ≡ Less)
    (second : (x : X) (y v : Y) → b y v ≡ Less → c (pair x y) (pair x v) ≡ Less) where
  sorted-row : (x : X) (ys : List Y) → IsStrictlySortedBy b ys → IsStrictlySortedBy c (map (pair x) ys)
  unfolding IsStrictlySortedBy
  sorted-row x [] h = tt
  sorted-row x (y ∷ ys) h = (
    each_map (λ z. c (pair x y) z ≡ Less) (pair x) ys (weaker (λ v. b y v ≡ Less) (λ v. c (pair x y) (pair x v) ≡ Less) (λ v l. second x y v l) ys h.0),
    sorted-row x ys h.1,
  )

  -- the pairs of elements of two lists in order, by the first and then by the second
  pub sorted-pairs : (xs : List X) (ys : List Y) → IsStrictlySortedBy a xs → IsStrictlySortedBy b ys → IsStrictlySortedBy c (flat_map (λ x. map (pair x) ys) xs)
  unfolding IsStrictlySortedBy
  sorted-pairs [] ys h g = tt
  sorted-pairs (x ∷ xs) ys h g =
      sorted-append c (map (pair x) ys) (flat_map (λ u. map (pair u) ys) xs) (sorted-row x ys g) (sorted-pairs xs ys h.1 g)
      (each_map (λ z. AllByRecursion (λ w. c z w ≡ Less) (flat_map (λ u. map (pair u) ys) xs)) (pair x) ys
      (always (λ y. AllByRecursion (λ w. c (pair x y) w ≡ Less) (flat_map (λ u. map (pair u) ys) xs))
      (λ y. each_flat (λ w. c (pair x y) w ≡ Less) (λ u. map (pair u) ys) xs
      (weaker (λ u. a x u ≡ Less) (λ u. AllByRecursion (λ w. c (pair x y) w ≡ Less) (map (pair u) ys))
      (λ u l. each_map (λ w. c (pair x y) w ≡ Less) (pair u) ys (always (λ v. c (pair x y) (pair u v) ≡ Less) (λ v. first x u y v l) ys)) xs h.0)) ys))

tuple_first : (x u : ℕ) (t v : List ℕ) → nat_cmp x u ≡ Less → slice_cmp nat_cmp (x ∷ t) (u ∷ v) ≡ Less
tuple_first x u t v h = ap (λ o. ordering_then o (slice_cmp nat_cmp t v)) h

tuple_second : (x : ℕ) (t v : List ℕ) → slice_cmp nat_cmp t v ≡ Less → slice_cmp nat_cmp (x ∷ t) (x ∷ v) ≡ Less
tuple_second x t v h = ap (λ o. ordering_then o (slice_cmp nat_cmp t v)) (tied_itself nat_cmp_total x) ∙ h

pub sorted-lists_of : (xs : List ℕ) (n : ℕ) → IsStrictlySortedBy nat_cmp xs → IsStrictlySortedBy (slice_cmp nat_cmp) (lists_of xs n)
unfolding IsStrictlySortedBy
sorted-lists_of xs zero h = (tt, tt)
sorted-lists_of xs (suc n) h = sorted-pairs nat_cmp (slice_cmp nat_cmp) (slice_cmp nat_cmp) (λ x t. x ∷ t) tuple_first tuple_second xs (lists_of xs n) h (sorted-lists_of xs n h)

above : (x a n : ℕ) → x < a → AllByRecursion (λ y. nat_cmp x y ≡ Less) (range_with_len a n)
above x a zero h = tt
above x a (suc n) h = (nat_cmp-Less x a h, above x (a + 1) n (omega arith))

sorted-range : (a n : ℕ) → IsStrictlySortedBy nat_cmp (range_with_len a n)
unfolding IsStrictlySortedBy
sorted-range a zero = tt
sorted-range a (suc n) = (above a (a + 1) n (omega arith), sorted-range (a + 1) n)

pub sorted-below : (n : ℕ) → IsStrictlySortedBy nat_cmp (below n)
sorted-below n = sorted-range 0 n

-- ---- which

pub has-lists_of : {X : Type 0} (t xs : List X) (n : ℕ) → Has t (lists_of xs n) → (length t ≡ n) × AllByRecursion (λ x. Has x xs) t
has-lists_of {X} t xs zero (inl e) = subst (λ (u : List X). (length u ≡ 0) × AllByRecursion (λ x. Has x xs) u) e (refl, tt)
has-lists_of t xs zero (inr h) = absurd h
has-lists_of {X} t xs (suc n) h =
    let first = has-flat_map (λ x. map (λ rest. x ∷ rest) (lists_of xs n)) t xs h in
    let rest = begins first.0 t (lists_of xs n) first.2 in
    let all = has-lists_of rest.0 xs n rest.2 in
    subst (λ (u : List X). (length u ≡ suc n) × AllByRecursion (λ x. Has x xs) u) rest.1 (ap suc all.0, (first.1, all.1))

pub lists_of-has : {X : Type 0} (t xs : List X) → AllByRecursion (λ x. Has x xs) t → Has t (lists_of xs (length t))
lists_of-has [] xs h = inl refl
lists_of-has (x ∷ t) xs h =
    flat_map-has (λ y. map (λ rest. y ∷ rest) (lists_of xs (length t))) (x ∷ t) x xs h.0 (map-has (λ rest. x ∷ rest) t (lists_of xs (length t)) (lists_of-has t xs h.1))

pub has-range : (x a n : ℕ) → Has x (range_with_len a n) → (a ≤ x) × (x < a + n)
has-range x a zero h = absurd h
has-range x a (suc n) (inl e) = (omega (arith, e), omega (arith, e))
has-range x a (suc n) (inr h) = let r = has-range x (a + 1) n h in (omega (arith, r.0), omega (arith, r.1))

pub range-has : (x a n : ℕ) → a ≤ x → x < a + n → Has x (range_with_len a n)
range-has x a zero h g = absurd (let none : ⊥ = omega (arith, h, g) in none)
range-has x a (suc n) h g = by (λ low. range-has x (a + 1) n low (omega (arith, g))) (nat_lt a x) refl
  where
    by : (a + 1 ≤ x → Has x (range_with_len (a + 1) n)) → (b : Bool) → nat_lt a x ≡ b → Has x (range_with_len a (suc n))
    by later true is = let low : a < x = ltb-true a x is in inr (later (omega (arith, low)))
    by later false is = let same : a ≡ x = grind (arith, h, is) in inl same

pub has-below : (x n : ℕ) → Has x (below n) → x < n
has-below x n h = omega (arith, (has-range x 0 n h).1)

pub below-has : (x n : ℕ) → x < n → Has x (below n)
below-has x n h = range-has x 0 n (omega arith) (omega (arith, h))

-- ---- a list in order with elements of another one is no longer

module _ {X : Type 0} where
  without : (x : X) (ys : List X) → Has x ys → (zs : List X) × (length ys ≡ suc (length zs)) × ((z : X) → Has z ys → (z ≡ x → ⊥) → Has z zs)
  without x [] h = absurd h
  without x (y ∷ ys) (inl e) = (ys, refl, λ z g other. by z g other)
    where
      by : (z : X) → Has z (y ∷ ys) → (z ≡ x → ⊥) → Has z ys
      by z (inl d) other = absurd (other (sym d ∙ e))
      by z (inr g) other = g
  without x (y ∷ ys) (inr h) = let w = without x ys h in (y ∷ w.0, ap suc w.1, λ z g other. by w.0 w.2 z g other)
    where
      by : (zs : List X) → ((z : X) → Has z ys → (z ≡ x → ⊥) → Has z zs) → (z : X) → Has z (y ∷ ys) → (z ≡ x → ⊥) → Has z (y ∷ zs)
      by zs deeper z (inl d) other = inl d
      by zs deeper z (inr g) other = inr (deeper z g other)

pub each_has : {X : Type 0} (P : X → Type 0) (x : X) (xs : List X) → AllByRecursion P xs → Has x xs → P x
each_has P x [] h g = absurd g
each_has P x (y ∷ ys) h (inl e) = subst P e h.0
each_has P x (y ∷ ys) h (inr g) = each_has P x ys h.1 g

pub has_each : {X : Type 0} (P : X → Type 0) (xs : List X) → ((x : X) → Has x xs → P x) → AllByRecursion P xs
has_each P [] h = tt
has_each P (x ∷ xs) h = (h x (inl refl), has_each P xs (λ y g. h y (inr g)))

module _ {X : Type 0} (cmp : X → X → Ordering) (o : IsTotalOrder cmp) where
  pub length-among : (xs ys : List X) → IsStrictlySortedBy cmp xs → ((z : X) → Has z xs → Has z ys) → length xs ≤ length ys
  unfolding IsStrictlySortedBy
  length-among [] ys h f = omega arith
  length-among (x ∷ xs) ys h f =
      let rest = without x ys (f x (inl refl)) in
      let later = length-among xs rest.0 h.1 (λ z g. rest.2 z (f z (inr g)) (λ e. apart z g e)) in
      omega (arith, rest.1, later)
    where
      apart : (z : X) → Has z xs → z ≡ x → ⊥
      apart z g e = let less : cmp x x ≡ Less = subst (λ w. cmp x w ≡ Less) e (each_has (λ w. cmp x w ≡ Less) z xs h.0 g) in
          let same : Less ≡ Equal = sym less ∙ tied_itself o x in cc
