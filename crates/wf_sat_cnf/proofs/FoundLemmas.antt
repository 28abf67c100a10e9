-- What is found place by place are the minimal forbidden patterns.
use Rattle.std.proofs.Common.{◌≡◌, ℕ, zero, suc, ◌+◌, ◌<◌, ◌≤◌, ◌&&◌, ◌||◌, Bool, true, false, not, List, [], ◌∷◌, ◌++◌, map, filter, flat_map, zip, drop, length, slice_index, inl, inr, refl, sym, ap, ◌∙◌, subst, arith, rules, append_assoc}
use Rattle.std.specs.Prelude.{if◌then◌else◌}
use Rattle.std.specs.List.{AllByRecursion, list_any, list_all}
use Rattle.std.proofs.lemmas.Bool.{cases_Bool, or_left, or_right, not_from_true, not_from_false, not-true, and_right, false≢true}
use Rattle.std.proofs.lemmas.List.{drop_all, drop_more, length-drop}
use Rattle.std.proofs.lemmas.List.Elements.{filter_agree, filter-append}
use Rattle.std.proofs.lemmas.List.Folds.{list_any-append, list_all-append, list_all-map}
use Rattle.wf_model.specs.Lists.{lists_of}
use Rattle.wf_model.specs.Task.{Tuple}
use Rattle.wf_model.specs.Box.{has_at}
use Rattle.wf_sat_formula.specs.Patterns.{Entry, Pattern, has_entry, fits, is_forbidden, one_less, is_minimal, place_lists, patterns_at, minimal_patterns}
use Rattle.wf_sat_cnf.specs.Found.{having, occurs, occurs_in_each, found_at, patterns_with, found_with, choices, lies_below, patterns_on}

-- ---- lists

filter_map_swap : {X Y : Type 0} (test : Y → Bool) (f : X → Y) (xs : List X) → filter test (map f xs) ≡ map f (filter (λ x. test (f x)) xs)
filter_map_swap test f [] = refl
filter_map_swap {X = X} {Y = Y} test f (x ∷ xs) = elim (cases_Bool (test (f x))) [
  | inl pass ↦ rw pass (ap (λ ys. f x ∷ ys) (filter_map_swap test f xs))
  | inr fail ↦ rw fail (filter_map_swap test f xs)
]

filter_flat : {X Y : Type 0} (test : Y → Bool) (f : X → List Y) (xs : List X) → filter test (flat_map f xs) ≡ flat_map (λ x. filter test (f x)) xs
filter_flat test f [] = refl
filter_flat test f (x ∷ xs) = filter-append test (f x) (flat_map f xs) ∙ ap (λ ys. filter test (f x) ++ ys) (filter_flat test f xs)

pub filter_twice : {X : Type 0} (p q : X → Bool) (xs : List X) → filter p (filter q xs) ≡ filter (λ x. q x && p x) xs
filter_twice p q [] = refl
filter_twice p q (x ∷ xs) = elim (cases_Bool (q x)) [
  | inl pass ↦ elim (cases_Bool (p x)) [
    | inl also ↦ rw (pass, also) (ap (λ ys. x ∷ ys) (filter_twice p q xs))
    | inr fail ↦ rw (pass, fail) (filter_twice p q xs)
  ]
  | inr fail ↦ rw fail (filter_twice p q xs)
]

map_agree : {X Y : Type 0} (f g : X → Y) → ((x : X) → f x ≡ g x) → (xs : List X) → map f xs ≡ map g xs
map_agree f g h [] = refl
map_agree f g h (x ∷ xs) = λ i. h x i ∷ map_agree f g h xs i

map_twice : {X Y Z : Type 0} (g : Y → Z) (f : X → Y) (xs : List X) → map g (map f xs) ≡ map (λ x. g (f x)) xs
map_twice g f [] = refl
map_twice g f (x ∷ xs) = λ i. g (f x) ∷ map_twice g f xs i

map_append : {X Y : Type 0} (f : X → Y) (xs ys : List X) → map f (xs ++ ys) ≡ map f xs ++ map f ys
map_append f [] ys = refl
map_append f (x ∷ xs) ys = λ i. f x ∷ map_append f xs ys i

map_flat : {X Y Z : Type 0} (g : Y → Z) (f : X → List Y) (xs : List X) → map g (flat_map f xs) ≡ flat_map (λ x. map g (f x)) xs
map_flat g f [] = refl
map_flat g f (x ∷ xs) = map_append g (f x) (flat_map f xs) ∙ ap (λ ys. map g (f x) ++ ys) (map_flat g f xs)

flat_agree : {X Y : Type 0} (f g : X → List Y) → ((x : X) → f x ≡ g x) → (xs : List X) → flat_map f xs ≡ flat_map g xs
flat_agree f g h [] = refl
flat_agree f g h (x ∷ xs) = λ i. h x i ++ flat_agree f g h xs i

-- what gives nothing may be left out
flat_some : {X Y : Type 0} (f g : X → List Y) (test : X → Bool) → ((x : X) → test x ≡ true → f x ≡ g x) → ((x : X) → test x ≡ false → f x ≡ []) → (xs : List X) → flat_map f xs ≡ flat_map g (filter test xs)
flat_some f g test same none [] = refl
flat_some f g test same none (x ∷ xs) = elim (cases_Bool (test x)) [
  | inl pass ↦ rw pass (λ i. same x pass i ++ flat_some f g test same none xs i)
  | inr fail ↦ rw fail ((λ i. none x fail i ++ flat_map f xs) ∙ flat_some f g test same none xs)
]

singles : {X : Type 0} (xs : List X) → flat_map (λ x. map (λ rest. x ∷ rest) ([] ∷ [])) xs ≡ map (λ x. x ∷ []) xs
singles [] = refl
singles (x ∷ xs) = ap (λ ys. (x ∷ []) ∷ ys) (singles xs)

none_passes : {X : Type 0} (test : X → Bool) (xs : List X) → AllByRecursion (λ x. test x ≡ false) xs → filter test xs ≡ []
none_passes test [] h = refl
none_passes test (x ∷ xs) h = let fail : test x ≡ false = h.0 in rw fail (none_passes test xs h.1)

any_filter : {X : Type 0} (p q : X → Bool) (xs : List X) → list_any p (filter q xs) ≡ list_any (λ x. q x && p x) xs
any_filter p q [] = refl
any_filter p q (x ∷ xs) = elim (cases_Bool (q x)) [ inl pass ↦ rw pass (ap (λ b. p x || b) (any_filter p q xs)) | inr fail ↦ rw fail (any_filter p q xs) ]

any_agree : {X : Type 0} (p q : X → Bool) → ((x : X) → p x ≡ q x) → (xs : List X) → list_any p xs ≡ list_any q xs
any_agree p q h [] = refl
any_agree p q h (x ∷ xs) = λ i. h x i || any_agree p q h xs i

all_agree : {X : Type 0} (p q : X → Bool) → ((x : X) → p x ≡ q x) → (xs : List X) → list_all p xs ≡ list_all q xs
all_agree p q h [] = refl
all_agree p q h (x ∷ xs) = λ i. h x i && all_agree p q h xs i

any_mapped : {X Y : Type 0} (test : Y → Bool) (f : X → Y) (xs : List X) → list_any test (map f xs) ≡ list_any (λ x. test (f x)) xs
any_mapped test f [] = refl
any_mapped test f (x ∷ xs) = ap (λ b. test (f x) || b) (any_mapped test f xs)

-- some fail where not all pass
not_all : {X : Type 0} (test : X → Bool) (xs : List X) → not (list_any (λ x. not (test x)) xs) ≡ list_all test xs
not_all test [] = refl
not_all test (x ∷ xs) = elim (cases_Bool (test x)) [ inl pass ↦ rw pass (not_all test xs) | inr fail ↦ rw fail refl ]

and_true : (b : Bool) → (b && true) ≡ b
and_true true = refl
and_true false = refl

or_false : (b : Bool) → (b || false) ≡ b
or_false true = refl
or_false false = refl

-- ---- one entry more

fits_last : (q : Pattern) (e : Entry) (t : Tuple) → fits (q ++ e ∷ []) t ≡ (fits q t && has_entry t e)
fits_last q e t = list_all-append (has_entry t) q (e ∷ []) ∙ ap (λ b. fits q t && b) (and_true (has_entry t e))

fitting_last : (q : Pattern) (p a : ℕ) (tuples : List Tuple) → having p a (filter (fits q) tuples) ≡ filter (fits (q ++ (p, a) ∷ [])) tuples
fitting_last q p a tuples =
    filter_twice (λ t. has_at t p a) (fits q) tuples
    ∙ filter_agree (λ t. fits q t && has_at t p a) (fits (q ++ (p, a) ∷ [])) (λ t. sym (fits_last q (p, a) t)) tuples

occurs_last : (q : Pattern) (p a : ℕ) (tuples : List Tuple) → occurs (filter (fits q) tuples) p a ≡ list_any (fits (q ++ (p, a) ∷ [])) tuples
occurs_last q p a tuples =
    any_filter (λ t. has_at t p a) (fits q) tuples
    ∙ any_agree (λ t. fits q t && has_at t p a) (fits (q ++ (p, a) ∷ [])) (λ t. sym (fits_last q (p, a) t)) tuples

less_last : (q : Pattern) (e : Entry) → one_less (q ++ e ∷ []) ≡ map (λ l. l ++ e ∷ []) (one_less q) ++ q ∷ []
less_last [] e = refl
less_last (d ∷ q) e =
    ap (λ ls. (q ++ e ∷ []) ∷ map (λ rest. d ∷ rest) ls) (less_last q e)
    ∙ ap (λ ls. (q ++ e ∷ []) ∷ ls) (map_append (λ rest. d ∷ rest) (map (λ l. l ++ e ∷ []) (one_less q)) (q ∷ [])
    ∙ ap (λ ls. ls ++ (d ∷ q) ∷ []) (map_twice (λ rest. d ∷ rest) (λ l. l ++ e ∷ []) (one_less q) ∙ sym (map_twice (λ l. l ++ e ∷ []) (λ rest. d ∷ rest) (one_less q))))

-- what is forbidden stays so with more entries
forbidden_more : (tuples : List Tuple) (q r : Pattern) → is_forbidden tuples q ≡ true → is_forbidden tuples (q ++ r) ≡ true
forbidden_more tuples q r h = not_from_false (list_any (fits (q ++ r)) tuples) (none tuples (not-true (list_any (fits q) tuples) h))
  where
    none : (ts : List Tuple) → list_any (fits q) ts ≡ false → list_any (fits (q ++ r)) ts ≡ false
    none [] h = refl
    none (t ∷ ts) h =
        elim (cases_Bool (fits q t)) [
          | inl fit ↦ absurd (let bad : true ≡ false = (rw fit at h) in false≢true (sym bad))
          | inr other ↦
              let rest : list_any (fits q) ts ≡ false = (rw other at h) in
              let fails : fits (q ++ r) t ≡ false = list_all-append (has_entry t) q r ∙ ap (λ b. b && list_all (has_entry t) r) other in
              rw fails (none ts rest)
        ]

-- without an entry in the middle
any_less : (test : Pattern → Bool) (q : Pattern) (e : Entry) (r : Pattern) → test (q ++ r) ≡ true → list_any test (one_less (q ++ e ∷ r)) ≡ true
any_less test [] e r h = or_left (test r) (list_any test (map (λ rest. e ∷ rest) (one_less r))) h
any_less test (d ∷ q) e r h =
    or_right (test (q ++ e ∷ r)) (list_any test (map (λ rest. d ∷ rest) (one_less (q ++ e ∷ r))))
    (any_mapped test (λ rest. d ∷ rest) (one_less (q ++ e ∷ r)) ∙ any_less (λ l. test (d ∷ l)) q e r h)

-- a pattern that goes on from a forbidden one is not minimal
not_minimal : (tuples : List Tuple) (q : Pattern) (e : Entry) (r : Pattern) → is_forbidden tuples q ≡ true → is_minimal tuples (q ++ e ∷ r) ≡ false
not_minimal tuples q e r h =
    and_right (is_forbidden tuples (q ++ e ∷ r)) (not (list_any (is_forbidden tuples) (one_less (q ++ e ∷ r))))
    (not_from_true (list_any (is_forbidden tuples) (one_less (q ++ e ∷ r))) (any_less (is_forbidden tuples) q e r (forbidden_more tuples q r h)))

-- ---- the last place

some_fit : (test : Tuple → Bool) (tuples : List Tuple) → 0 < length (filter test tuples) → list_any test tuples ≡ true
some_fit test [] h = absurd (let none : ⊥ = omega (arith, h) in none)
some_fit test (t ∷ ts) h = elim (cases_Bool (test t)) [
  | inl pass ↦ or_left (test t) (list_any test ts) pass
  | inr fail ↦ or_right (test t) (list_any test ts) (some_fit test ts (rw fail at h))
]

fit_some : (test : Tuple → Bool) (tuples : List Tuple) → list_any test tuples ≡ true → 0 < length (filter test tuples)
fit_some test [] h = absurd (false≢true h)
fit_some test (t ∷ ts) h = elim (cases_Bool (test t)) [
  | inl pass ↦ rw pass (omega arith)
  | inr fail ↦ rw fail (fit_some test ts (rw fail at h))
]

-- the lists of tuples that fit all entries but one
nearly_of : List Tuple → Pattern → List (List Tuple)
nearly_of tuples q = map (λ l. filter (fits l) tuples) (one_less q)

-- the same with one value more
nearly_last : (q : Pattern) (p a : ℕ) (tuples : List Tuple) → nearly_of tuples (q ++ (p, a) ∷ []) ≡ map (having p a) (nearly_of tuples q) ++ filter (fits q) tuples ∷ []
unfolding nearly_of
nearly_last q p a tuples =
    ap (map (λ l. filter (fits l) tuples)) (less_last q (p, a))
    ∙ map_append (λ l. filter (fits l) tuples) (map (λ l. l ++ (p, a) ∷ []) (one_less q)) (q ∷ [])
    ∙ ap (λ ls. ls ++ filter (fits q) tuples ∷ []) (map_twice (λ l. filter (fits l) tuples) (λ l. l ++ (p, a) ∷ []) (one_less q)
    ∙ map_agree (λ l. filter (fits (l ++ (p, a) ∷ [])) tuples) (λ l. having p a (filter (fits l) tuples)) (λ l. sym (fitting_last l p a tuples)) (one_less q)
    ∙ sym (map_twice (having p a) (λ l. filter (fits l) tuples) (one_less q)))

minimal_last : (tuples : List Tuple) (q : Pattern) (p a : ℕ) → 0 < length (filter (fits q) tuples)
    → (not (occurs (filter (fits q) tuples) p a) && occurs_in_each (nearly_of tuples q) p a) ≡ is_minimal tuples (q ++ (p, a) ∷ [])
unfolding nearly_of
minimal_last tuples q p a some =
    let e : Entry = (p, a) in
    let fit : list_any (fits q) tuples ≡ true = some_fit (fits q) tuples some in
    let allowed : is_forbidden tuples q ≡ false = not_from_true (list_any (fits q) tuples) fit in
    let each : occurs_in_each (nearly_of tuples q) p a ≡ list_all (λ l. list_any (fits (l ++ e ∷ [])) tuples) (one_less q) =
    list_all-map (λ ts. occurs ts p a) (λ l. filter (fits l) tuples) (one_less q)
    ∙ all_agree (λ l. occurs (filter (fits l) tuples) p a) (λ l. list_any (fits (l ++ e ∷ [])) tuples) (λ l. occurs_last l p a tuples) (one_less q) in
    let lesser : not (list_any (is_forbidden tuples) (one_less (q ++ e ∷ []))) ≡ list_all (λ l. list_any (fits (l ++ e ∷ [])) tuples) (one_less q) =
    ap (λ ls. not (list_any (is_forbidden tuples) ls)) (less_last q e)
    ∙ ap not (list_any-append (is_forbidden tuples) (map (λ l. l ++ e ∷ []) (one_less q)) (q ∷ []))
    ∙ ap (λ b. not (list_any (is_forbidden tuples) (map (λ l. l ++ e ∷ []) (one_less q)) || (b || false))) allowed
    ∙ ap not (or_false (list_any (is_forbidden tuples) (map (λ l. l ++ e ∷ []) (one_less q))))
    ∙ ap not (any_mapped (is_forbidden tuples) (λ l. l ++ e ∷ []) (one_less q))
    ∙ not_all (λ l. list_any (fits (l ++ e ∷ [])) tuples) (one_less q) in
    (λ i. not (occurs_last q p a tuples i) && (each ∙ sym lesser) i)

-- ---- all places

lists_some : (values : List ℕ) (n : ℕ) (test : List ℕ → Bool) → ((x : ℕ) (xs : List ℕ) → test (x ∷ xs) ≡ false) → filter test (lists_of values (suc n)) ≡ []
lists_some values n test h =
    filter_flat test (λ x. map (λ rest. x ∷ rest) (lists_of values n)) values
    ∙ flat_agree (λ x. filter test (map (λ rest. x ∷ rest) (lists_of values n))) nothing_at
    (λ x. filter_map_swap test (λ rest. x ∷ rest) (lists_of values n) ∙ ap (map (λ rest. x ∷ rest)) (none_passes (λ rest. test (x ∷ rest)) (lists_of values n) (each x (lists_of values n)))) values
    ∙ nothing values
  where
    nothing_at : ℕ → List (List ℕ)
    nothing_at x = []

    each : (x : ℕ) (xss : List (List ℕ)) → AllByRecursion (λ rest. test (x ∷ rest) ≡ false) xss
    each x [] = tt
    each x (xs ∷ xss) = (h x xs, each x xss)

    nothing : (xs : List ℕ) → flat_map (λ (x : ℕ). nothing_at x) xs ≡ []
    nothing [] = refl
    nothing (x ∷ xs) = nothing xs

-- the values at the places ahead, by the definition
abbrev pub minimal_ahead : List Tuple → List ℕ → Pattern → List ℕ → List (List ℕ)
minimal_ahead tuples values q ahead = filter (λ xs. is_minimal tuples (q ++ zip ahead xs)) (lists_of values (length ahead))

found_minimal : (tuples : List Tuple) (values : List ℕ) (p : ℕ) (ps : List ℕ) (q : Pattern) → 0 < length (filter (fits q) tuples)
    → found_at values (p ∷ ps) (filter (fits q) tuples) (nearly_of tuples q) ≡ minimal_ahead tuples values q (p ∷ ps)
found_minimal tuples values p [] q some =
    ap (map (λ a. a ∷ [])) (filter_agree (λ a. not (occurs (filter (fits q) tuples) p a) && occurs_in_each (nearly_of tuples q) p a) (λ a. is_minimal tuples (q ++ (p, a) ∷ []))
    (λ a. minimal_last tuples q p a some) values)
    ∙ sym (filter_map_swap (λ xs. is_minimal tuples (q ++ zip (p ∷ []) xs)) (λ a. a ∷ []) values)
    ∙ ap (filter (λ xs. is_minimal tuples (q ++ zip (p ∷ []) xs))) (sym (singles values))
found_minimal tuples values p (r ∷ ps) q some =
    let fitting = filter (fits q) tuples in
    let nearly = nearly_of tuples q in
    let test = λ (xs : List ℕ). is_minimal tuples (q ++ zip (p ∷ r ∷ ps) xs) in
    let by_one = λ (a : ℕ). filter test (map (λ rest. a ∷ rest) (lists_of values (length (r ∷ ps)))) in
    let next = λ (a : ℕ). map (λ rest. a ∷ rest) (found_at values (r ∷ ps) (having p a fitting) (map (having p a) nearly ++ fitting ∷ [])) in
    sym (filter_flat test (λ a. map (λ rest. a ∷ rest) (lists_of values (length (r ∷ ps)))) values
    ∙ flat_some by_one next (occurs fitting p) (λ a there. found a there (found_minimal tuples values r ps (q ++ (p, a) ∷ []) (more_fit a there))) (λ a absent. not_found a absent) values)
  where
    longer : (a : ℕ) (xs : List ℕ) → is_minimal tuples (q ++ zip (p ∷ r ∷ ps) (a ∷ xs)) ≡ is_minimal tuples ((q ++ (p, a) ∷ []) ++ zip (r ∷ ps) xs)
    longer a xs = ap (is_minimal tuples) (sym (append_assoc q ((p, a) ∷ []) (zip (r ∷ ps) xs)))

    more_fit : (a : ℕ) → occurs (filter (fits q) tuples) p a ≡ true → 0 < length (filter (fits (q ++ (p, a) ∷ [])) tuples)
    more_fit a there = subst (λ ts. 0 < length ts) (fitting_last q p a tuples) (fit_some (λ t. has_at t p a) (filter (fits q) tuples) there)

    found : (a : ℕ) → occurs (filter (fits q) tuples) p a ≡ true
        → found_at values (r ∷ ps) (filter (fits (q ++ (p, a) ∷ [])) tuples) (nearly_of tuples (q ++ (p, a) ∷ [])) ≡ minimal_ahead tuples values (q ++ (p, a) ∷ []) (r ∷ ps)
        → filter (λ xs. is_minimal tuples (q ++ zip (p ∷ r ∷ ps) xs)) (map (λ rest. a ∷ rest) (lists_of values (length (r ∷ ps))))
        ≡ map (λ rest. a ∷ rest) (found_at values (r ∷ ps) (having p a (filter (fits q) tuples)) (map (having p a) (nearly_of tuples q) ++ filter (fits q) tuples ∷ []))
    found a there inner =
        let e : Entry = (p, a) in
        let tests = λ (xs : List ℕ). is_minimal tuples (q ++ zip (p ∷ r ∷ ps) xs) in
        filter_map_swap tests (λ rest. a ∷ rest) (lists_of values (length (r ∷ ps)))
        ∙ ap (map (λ rest. a ∷ rest)) (filter_agree (λ xs. tests (a ∷ xs)) (λ xs. is_minimal tuples ((q ++ e ∷ []) ++ zip (r ∷ ps) xs)) (longer a) (lists_of values (length (r ∷ ps)))
        ∙ sym inner
        ∙ (λ i. found_at values (r ∷ ps) (sym (fitting_last q p a tuples) i) (nearly_last q p a tuples i)))

    not_found : (a : ℕ) → occurs (filter (fits q) tuples) p a ≡ false → filter (λ xs. is_minimal tuples (q ++ zip (p ∷ r ∷ ps) xs)) (map (λ rest. a ∷ rest) (lists_of values (length (r ∷ ps)))) ≡ []
    not_found a absent =
        let e : Entry = (p, a) in
        let tests = λ (xs : List ℕ). is_minimal tuples (q ++ zip (p ∷ r ∷ ps) xs) in
        let forbidden : is_forbidden tuples (q ++ e ∷ []) ≡ true = not_from_false (list_any (fits (q ++ e ∷ [])) tuples) (sym (occurs_last q p a tuples) ∙ absent) in
        filter_map_swap tests (λ rest. a ∷ rest) (lists_of values (length (r ∷ ps)))
        ∙ ap (map (λ rest. a ∷ rest)) (lists_some values (length ps) (λ xs. tests (a ∷ xs))
        (λ x xs. longer a (x ∷ xs) ∙ not_minimal tuples (q ++ e ∷ []) (r, x) (zip ps xs) forbidden))

-- ---- all patterns of a rule

all_fit : (tuples : List Tuple) → filter (fits []) tuples ≡ tuples
all_fit [] = refl
all_fit (t ∷ ts) = ap (λ rest. t ∷ rest) (all_fit ts)

-- the minimal patterns at some places
at_places : (values : List ℕ) (tuples : List Tuple) (p : ℕ) (ps : List ℕ) → 0 < length tuples
    → filter (is_minimal tuples) (patterns_at values (p ∷ ps)) ≡ patterns_with (p ∷ ps) [] (found_at values (p ∷ ps) tuples [])
unfolding nearly_of
at_places values tuples p ps some =
    filter_map_swap (is_minimal tuples) (zip (p ∷ ps)) (lists_of values (length (p ∷ ps)))
    ∙ ap (map (zip (p ∷ ps))) (sym (found_minimal tuples values p ps [] (subst (λ ts. 0 < length ts) (sym (all_fit tuples)) some))
    ∙ (λ i. found_at values (p ∷ ps) (all_fit tuples i) []))

nonempty_at : (values : List ℕ) (tuples : List Tuple) (lists : List (List ℕ)) → 0 < length tuples → AllByRecursion (λ (ps : List ℕ). 0 < length ps) lists
    → flat_map (λ ps. filter (is_minimal tuples) (patterns_at values ps)) lists ≡ flat_map (λ ps. patterns_with ps [] (found_at values ps tuples [])) lists
nonempty_at values tuples [] some h = refl
nonempty_at values tuples ([] ∷ lists) some h = absurd (let none : ⊥ = omega (arith, h.0) in none)
nonempty_at values tuples ((p ∷ ps) ∷ lists) some h = λ i. at_places values tuples p ps some i ++ nonempty_at values tuples lists some h.1 i

-- with no places there is one pattern, the empty one, which is not forbidden
none_at : (values : List ℕ) (tuples : List Tuple) → 0 < length tuples → filter (is_minimal tuples) (patterns_at values []) ≡ []
none_at values [] some = absurd (let none : ⊥ = omega (arith, some) in none)
none_at values (t ∷ ts) some = refl

flat_chosen : {Y : Type 0} (f : List ℕ → List Y) (test : List ℕ → Bool) (xs : List (List ℕ)) → flat_map f (filter test xs) ≡ flat_map (λ x. if test x then f x else []) xs
flat_chosen f test [] = refl
flat_chosen f test (x ∷ xs) = elim (cases_Bool (test x)) [
  | inl pass ↦ rw pass (ap (λ ys. f x ++ ys) (flat_chosen f test xs))
  | inr fail ↦ rw fail (flat_chosen f test xs)
]

by_choices : (n : ℕ) (values : List ℕ) (tuples : List Tuple) → 0 < length tuples → place_lists n ≡ [] ∷ filter (lies_below n) choices → AllByRecursion (λ (ps : List ℕ). 0 < length ps) (filter (lies_below n) choices)
    → minimal_patterns n values tuples ≡ flat_map (patterns_on n values tuples) choices
by_choices n values tuples some is long =
    filter_flat (is_minimal tuples) (patterns_at values) (place_lists n)
    ∙ ap (flat_map (λ ps. filter (is_minimal tuples) (patterns_at values ps))) is
    ∙ ap (λ xs. xs ++ flat_map (λ ps. filter (is_minimal tuples) (patterns_at values ps)) (filter (lies_below n) choices)) (none_at values tuples some)
    ∙ nonempty_at values tuples (filter (lies_below n) choices) some long
    ∙ flat_chosen (λ ps. patterns_with ps [] (found_at values ps tuples [])) (lies_below n) choices

-- what is found on the choices of places are the minimal patterns
pub minimal_found : (n : ℕ) (values : List ℕ) (tuples : List Tuple) → n ≤ 4 → 0 < length tuples → minimal_patterns n values tuples ≡ flat_map (patterns_on n values tuples) choices
minimal_found zero values tuples few some = by_choices 0 values tuples some refl tt
minimal_found (suc zero) values tuples few some = by_choices 1 values tuples some refl (search rules)
minimal_found (suc (suc zero)) values tuples few some = by_choices 2 values tuples some refl (search rules)
minimal_found (suc (suc (suc zero))) values tuples few some = by_choices 3 values tuples some refl (search rules)
minimal_found (suc (suc (suc (suc zero)))) values tuples few some = by_choices 4 values tuples some refl (search rules)
minimal_found (suc (suc (suc (suc (suc n))))) values tuples few some = absurd (let none : ⊥ = omega (arith, few) in none)

-- no tuples forbid the empty pattern, and that alone
nothing_minimal : (values : List ℕ) (lists : List (List ℕ)) → AllByRecursion (λ (ps : List ℕ). 0 < length ps) lists → flat_map (λ ps. filter (is_minimal []) (patterns_at values ps)) lists ≡ []
nothing_minimal values [] h = refl
nothing_minimal values ([] ∷ lists) h = absurd (let none : ⊥ = omega (arith, h.0) in none)
nothing_minimal values ((p ∷ ps) ∷ lists) h =
    let none : filter (is_minimal []) (patterns_at values (p ∷ ps)) ≡ [] =
    filter_map_swap (is_minimal []) (zip (p ∷ ps)) (lists_of values (length (p ∷ ps)))
    ∙ ap (map (zip (p ∷ ps))) (lists_some values (length ps) (λ xs. is_minimal [] (zip (p ∷ ps) xs)) (λ x xs. refl)) in
    (λ i. none i ++ flat_map (λ ps. filter (is_minimal []) (patterns_at values ps)) lists) ∙ nothing_minimal values lists h.1

nothing_by : (n : ℕ) (values : List ℕ) → place_lists n ≡ [] ∷ filter (lies_below n) choices → AllByRecursion (λ (ps : List ℕ). 0 < length ps) (filter (lies_below n) choices) → minimal_patterns n values [] ≡ [] ∷ []
nothing_by n values is long =
    filter_flat (is_minimal []) (patterns_at values) (place_lists n)
    ∙ ap (flat_map (λ ps. filter (is_minimal []) (patterns_at values ps))) is
    ∙ ap (λ xs. [] ∷ xs) (nothing_minimal values (filter (lies_below n) choices) long)

pub minimal_nothing : (n : ℕ) (values : List ℕ) → n ≤ 4 → minimal_patterns n values [] ≡ [] ∷ []
minimal_nothing zero values few = nothing_by 0 values refl tt
minimal_nothing (suc zero) values few = nothing_by 1 values refl (search rules)
minimal_nothing (suc (suc zero)) values few = nothing_by 2 values refl (search rules)
minimal_nothing (suc (suc (suc zero))) values few = nothing_by 3 values refl (search rules)
minimal_nothing (suc (suc (suc (suc zero)))) values few = nothing_by 4 values refl (search rules)
minimal_nothing (suc (suc (suc (suc (suc n))))) values few = absurd (let none : ⊥ = omega (arith, few) in none)

-- ---- one place more

drop_here : (xs : List ℕ) (n : ℕ) → n < length xs → drop n xs ≡ slice_index xs n ∷ drop (n + 1) xs
drop_here xs n h = drop_more xs n 0 h

found_last-one : (values : List ℕ) (p : ℕ) (rest : List ℕ) (fitting : List Tuple) (nearly : List (List Tuple)) → rest ≡ []
    → found_at values (p ∷ rest) fitting nearly ≡ map (λ a. a ∷ []) (filter (λ a. not (occurs fitting p a) && occurs_in_each nearly p a) values)
found_last-one values p [] fitting nearly h = refl
found_last-one values p (q ∷ rest) fitting nearly h = absurd (let none : ⊥ = cc in none)

found_more-one : (values : List ℕ) (p : ℕ) (rest : List ℕ) (fitting : List Tuple) (nearly : List (List Tuple)) → 0 < length rest
    → found_at values (p ∷ rest) fitting nearly ≡ flat_map (λ a. map (λ l. a ∷ l) (found_at values rest (having p a fitting) (map (having p a) nearly ++ fitting ∷ []))) (filter (occurs fitting p) values)
found_more-one values p [] fitting nearly h = absurd (let none : ⊥ = omega (arith, h) in none)
found_more-one values p (q ∷ rest) fitting nearly h = refl

-- at the last place
pub found_last : (values places begun : List ℕ) (n : ℕ) (fitting : List Tuple) (nearly : List (List Tuple)) → n < length places → n + 1 ≡ length places
    → patterns_with places begun (found_at values (drop n places) fitting nearly)
    ≡ map (λ a. zip places (begun ++ a ∷ [])) (filter (λ a. not (occurs fitting (slice_index places n) a) && occurs_in_each nearly (slice_index places n) a) values)
found_last values places begun n fitting nearly low last =
    ap (λ ahead. patterns_with places begun (found_at values ahead fitting nearly)) (drop_here places n low)
    ∙ ap (patterns_with places begun) (found_last-one values (slice_index places n) (drop (n + 1) places) fitting nearly (drop_all (n + 1) places (omega (arith, last))))
    ∙ map_twice (λ rest. zip places (begun ++ rest)) (λ a. a ∷ []) (filter (λ a. not (occurs fitting (slice_index places n) a) && occurs_in_each nearly (slice_index places n) a) values)

-- at a place before
pub found_more : (values places begun : List ℕ) (n : ℕ) (fitting : List Tuple) (nearly : List (List Tuple)) → n + 1 < length places
    → patterns_with places begun (found_at values (drop n places) fitting nearly)
    ≡ flat_map (found_with values places n begun fitting nearly) (filter (occurs fitting (slice_index places n)) values)
found_more values places begun n fitting nearly low =
    let p = slice_index places n in
    let rest = drop (n + 1) places in
    let next = λ (a : ℕ). found_at values rest (having p a fitting) (map (having p a) nearly ++ fitting ∷ []) in
    ap (λ ahead. patterns_with places begun (found_at values ahead fitting nearly)) (drop_here places n (omega (arith, low)))
    ∙ ap (patterns_with places begun) (found_more-one values p rest fitting nearly (omega (arith, low, length-drop (n + 1) places)))
    ∙ map_flat (λ l. zip places (begun ++ l)) (λ a. map (λ l. a ∷ l) (next a)) (filter (occurs fitting p) values)
    ∙ flat_agree (λ a. map (λ l. zip places (begun ++ l)) (map (λ l. a ∷ l) (next a))) (λ a. patterns_with places (begun ++ a ∷ []) (next a))
    (λ a. map_twice (λ l. zip places (begun ++ l)) (λ l. a ∷ l) (next a)
    ∙ map_agree (λ l. zip places (begun ++ a ∷ l)) (λ l. zip places ((begun ++ a ∷ []) ++ l)) (λ l. ap (zip places) (sym (append_assoc begun (a ∷ []) l))) (next a))
    (filter (occurs fitting p) values)
