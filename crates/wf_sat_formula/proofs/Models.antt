-- A model of a problem's formula gives a solution: at each point the least
-- value whose variable is true.
use Rattle.std.proofs.Common.{◌≡◌, ℕ, zero, suc, ◌+◌, ◌<◌, ◌==◌, Bool, true, false, not, List, [], ◌∷◌, map, filter, flat_map, zip, length, get_or, drop, slice_index, All, Contains, inl, inr, refl, sym, ap, ◌∙◌, subst, arith, eqb-true, eq-eqb}
use Rattle.std.specs.List.{AllByRecursion, list_any, range_with_len}
use Rattle.std.proofs.lemmas.Bool.{cases_Bool, or_cases, and_parts, or_left, or_right, both_ways, not_from_true, not_from_false, false≢true}
use Rattle.std.proofs.lemmas.List.{length-map, drop_all, drop_more, get_or-map}
use Rattle.std.proofs.lemmas.List.Elements.{recursion_from_All, All-from_recursion}
use Rattle.wf_model.specs.Lists.{below, has}
use Rattle.wf_model.specs.Task.{Tuple}
use Rattle.wf_model.specs.Box.{has_at}
use Rattle.wf_model.specs.Problem.{Problem, Constraint, Participant, IsSolution, IsWellFormed, Satisfies, values_at}
use Rattle.wf_model.specs.Check.{satisfies}
use Rattle.wf_model.proofs.Lemmas.{length-below, weaker, satisfies_says, satisfies_tests}
use Rattle.wf_sat_text.specs.Clauses.Formula.{Assignment, Clause, holds, pos, IsModel}
use Rattle.wf_sat_formula.specs.Patterns.{Entry, Pattern, has_entry, fits, is_forbidden, one_less, is_minimal, patterns, minimal_patterns}
use Rattle.wf_sat_formula.specs.Encoding.{variable, at_least_one, point_at, denied, clauses_of, formula_of, least_true, map_in}
use Rattle.wf_sat_formula.specs.Laws.{HasFullTuples}
use Rattle.wf_sat_formula.proofs.Members.{In, each_in, in_left, in_right, in_map, in_flat, in_filter, in_below, Part, part_itself}
use Rattle.wf_sat_formula.proofs.MinimalPatterns.{places, less_each, less_part, shrunk, is_pattern}

pub any_map : {X Y : Type 0} (test : Y → Bool) (f : X → Y) (xs : List X) → list_any test (map f xs) ≡ list_any (λ x. test (f x)) xs
any_map test f [] = refl
any_map {X = X} {Y = Y} test f (x ∷ xs) = λ i. either (test (f x)) (any_map test f xs i)
  where
    either : Bool → Bool → Bool
    either true b = true
    either false b = b

-- ---- the least value that passes

first_passes : (test : ℕ → Bool) (xs : List ℕ) → list_any test xs ≡ true → (test (slice_index (filter test xs) 0) ≡ true) × (has xs (slice_index (filter test xs) 0) ≡ true)
first_passes test [] h = absurd (false≢true h)
first_passes test (x ∷ xs) h =
    elim (cases_Bool (test x)) [
      | inl pass ↦
          let kept : filter test (x ∷ xs) ≡ x ∷ filter test xs = rw pass refl in
          subst (λ ys. (test (slice_index ys 0) ≡ true) × (has (x ∷ xs) (slice_index ys 0) ≡ true)) (sym kept) (pass, or_left (x == x) (has xs x) (eq-eqb x x refl))
      | inr fail ↦
          let later : list_any test xs ≡ true = elim (or_cases (test x) (list_any test xs) h) [ inl now ↦ absurd (both_ways (test x) fail now) | inr later ↦ later ] in
          let rest = first_passes test xs later in
          let left : filter test (x ∷ xs) ≡ filter test xs = rw fail refl in
          subst (λ ys. (test (slice_index ys 0) ≡ true) × (has (x ∷ xs) (slice_index ys 0) ≡ true)) (sym left)
          (rest.0, or_right (x == slice_index (filter test xs) 0) (has xs (slice_index (filter test xs) 0)) rest.1)
    ]

-- ---- a whole tuple as a pattern

-- the values as a pattern at all places
abbrev pub whole : List ℕ → Pattern
whole values = zip (below (length values)) values

pub each_zip : (P : Entry → Type 0) (xs : List ℕ) (c n : ℕ) → length xs ≡ n → ((i : ℕ) → i < n → P (c + i, get_or xs i 0)) → AllByRecursion P (zip (range_with_len c n) xs)
each_zip P [] c n h f = nothing (range_with_len c n)
  where
    nothing : (ps : List ℕ) → AllByRecursion P (zip ps [])
    nothing [] = tt
    nothing (p ∷ ps) = tt
each_zip P (x ∷ xs) c zero h f = absurd (let none : ⊥ = omega (arith, h) in none)
each_zip P (x ∷ xs) c (suc n) h f =
    let first : c + 0 ≡ c = omega arith in (
      subst (λ p. P (p, x)) first (f 0 (omega arith)),
      each_zip P xs (c + 1) n (omega (arith, h)) (λ i low. let next : c + suc i ≡ c + 1 + i = omega arith in subst (λ p. P (p, get_or xs i 0)) next (f (suc i) (omega (arith, low)))),
    )

value_is : (tuple : Tuple) (c x : ℕ) → has_at tuple c x ≡ true → get_or tuple c 0 ≡ x
value_is [] c x h = absurd (false≢true h)
value_is (y ∷ tuple) zero x h = eqb-true y x h
value_is (y ∷ tuple) (suc c) x h = value_is tuple c x h

fits_from : (xs : List ℕ) (tuple : Tuple) (c n : ℕ) → length xs ≡ n → length tuple ≡ c + n → fits (zip (range_with_len c n) xs) tuple ≡ true → drop c tuple ≡ xs
fits_from [] tuple c n h long fit = drop_all c tuple (omega (arith, h, long))
fits_from (x ∷ xs) tuple c zero h long fit = absurd (let none : ⊥ = omega (arith, h) in none)
fits_from (x ∷ xs) tuple c (suc n) h long fit =
    let parts = and_parts (has_entry tuple (c, x)) (fits (zip (range_with_len (c + 1) n) xs) tuple) fit in
    drop_more tuple c 0 (omega (arith, long)) ∙ (λ i. value_is tuple c x parts.0 i ∷ fits_from xs tuple (c + 1) n (omega (arith, h)) (omega (arith, long)) parts.1 i)

-- a tuple that fits a whole list of values is the list
whole_fits : (xs : List ℕ) (tuple : Tuple) → length tuple ≡ length xs → fits (whole xs) tuple ≡ true → tuple ≡ xs
whole_fits xs tuple long fit = fits_from xs tuple 0 (length xs) refl (let e : length tuple ≡ 0 + length xs = omega (arith, long) in e) fit

places_zip : (ps xs : List ℕ) → length xs ≡ length ps → places (zip ps xs) ≡ ps
places_zip [] xs h = refl
places_zip (p ∷ ps) [] h = absurd (let none : ⊥ = omega (arith, h) in none)
places_zip (p ∷ ps) (x ∷ xs) h = ap (λ rest. p ∷ rest) (places_zip ps xs (omega (arith, h)))

whole_places : (xs : List ℕ) → Part (places (whole xs)) (below (length xs))
whole_places xs = subst (λ ps. Part ps (below (length xs))) (sym (places_zip (below (length xs)) xs (sym (length-below (length xs))))) (part_itself (below (length xs)))

-- where no tuple is the list, the list is forbidden
whole_forbidden : (xs : List ℕ) (tuples : List Tuple) → AllByRecursion (λ tuple. length tuple ≡ length xs) tuples → (Contains tuples xs → ⊥) → is_forbidden tuples (whole xs) ≡ true
whole_forbidden xs tuples long absent = not_from_false (list_any (fits (whole xs)) tuples) (none tuples long absent)
  where
    none : (ts : List Tuple) → AllByRecursion (λ tuple. length tuple ≡ length xs) ts → (Contains ts xs → ⊥) → list_any (fits (whole xs)) ts ≡ false
    none [] long absent = refl
    none (t ∷ ts) long absent =
        elim (cases_Bool (fits (whole xs) t)) [
          | inl fit ↦ absurd (absent (0, omega arith, whole_fits xs t long.0 fit))
          | inr other ↦ rw other (none ts long.1 (λ at. absent (suc at.0, omega (arith, at.1), at.2)))
        ]

-- ---- the clauses of a model

module _ (p : Problem) (a : Assignment) (well : IsWellFormed p) (full : HasFullTuples p) (model : IsModel a (formula_of p)) where
  -- each clause has a literal that holds
  clause_holds : (clause : Clause) → In clause (formula_of p).clauses → list_any (holds a) clause ≡ true
  clause_holds clause i = each_in (λ c. list_any (holds a) c ≡ true) (formula_of p).clauses clause (recursion_from_All _ (formula_of p).clauses model) i

  -- the value at a point is listed, and its variable is true
  pub value_true : (v : ℕ) → v < p.points → (a (variable p.values v (least_true p.values a v)) ≡ true) × (has p.values (least_true p.values a v) ≡ true)
  value_true v low =
      first_passes (λ x. a (variable p.values v x)) p.values
      (sym (any_map (holds a) (λ x. pos (variable p.values v x)) p.values)
      ∙ clause_holds (at_least_one p.values v) (in_left (map (at_least_one p.values) (below p.points)) (flat_map (clauses_of p.values) p.constraints) (at_least_one p.values v) (in_map (at_least_one p.values) (below p.points) v (in_below p.points v low))))

  pub value_there : (v : ℕ) → v < p.points → slice_index (map_in p a) v ≡ least_true p.values a v
  value_there v low =
      get_or-map (least_true p.values a) (below p.points) v 0 0 (omega (arith, low, length-below p.points))
      ∙ ap (least_true p.values a) (let e : 0 + v ≡ v = omega arith in range_at 0 p.points v low ∙ e)
    where
      range_at : (c n i : ℕ) → i < n → get_or (range_with_len c n) i 0 ≡ c + i
      range_at c zero i h = absurd (let none : ⊥ = omega (arith, h) in none)
      range_at c (suc n) zero h = omega arith
      range_at c (suc n) (suc i) h = let e = range_at (c + 1) n i (omega (arith, h)) in omega (arith, e)

  -- an entry that the model's values have at an execution
  IsTrueEntry : List Participant → Entry → Type 0
  IsTrueEntry scope e = (has p.values e.1 ≡ true) × (a (variable p.values (point_at scope e.0) e.1) ≡ true)

  true_at : (scope : List Participant) (i : ℕ) → i < length scope → All (λ at. at.1 < p.points) scope → IsTrueEntry scope (i, get_or (values_at (map_in p a) scope) i 0)
  unfolding IsTrueEntry
  true_at scope i low inside =
      let at : Participant = get_or scope i (0, 0) in
      let within : at.1 < p.points = inside i (0, 0) low in
      let point : point_at scope i ≡ at.1 = get_or-map (λ (at : Participant). at.1) scope i (0, 0) 0 low in
      let value : get_or (values_at (map_in p a) scope) i 0 ≡ least_true p.values a at.1 = get_or-map (λ (at : Participant). slice_index (map_in p a) at.1) scope i (0, 0) 0 low ∙ value_there at.1 within in
      let facts = value_true at.1 within in
      subst (λ x. (has p.values x ≡ true) × (a (variable p.values (point_at scope i) x) ≡ true)) (sym value)
      (facts.1, subst (λ v. a (variable p.values v (least_true p.values a at.1)) ≡ true) (sym point) facts.0)

  -- a clause of true entries alone has no literal that holds
  none_holds : (scope : List Participant) (pattern : Pattern) → AllByRecursion (IsTrueEntry scope) pattern → list_any (holds a) (denied p.values scope pattern) ≡ false
  unfolding IsTrueEntry
  none_holds scope [] h = refl
  none_holds scope (e ∷ es) h = let fails : not (a (variable p.values (point_at scope e.0) e.1)) ≡ false = not_from_true (a (variable p.values (point_at scope e.0) e.1)) h.0.1 in rw fails (none_holds scope es h.1)

  -- what the minimal pattern comes from: places of the execution, and true entries
  IsKept : List Participant → Pattern → Type 0
  IsKept scope pattern = Part (places pattern) (below (length scope)) × AllByRecursion (IsTrueEntry scope) pattern

  less_kept : (scope : List Participant) (pattern : Pattern) → IsKept scope pattern → AllByRecursion (IsKept scope) (one_less pattern)
  unfolding IsKept
  less_kept scope pattern h = each_both (one_less pattern) (less_part pattern (below (length scope)) h.0) (less_each (IsTrueEntry scope) pattern h.1)
    where
      each_both : (ps : List Pattern) → AllByRecursion (λ q. Part (places q) (below (length scope))) ps → AllByRecursion (AllByRecursion (IsTrueEntry scope)) ps → AllByRecursion (λ q. Part (places q) (below (length scope)) × AllByRecursion (IsTrueEntry scope) q) ps
      each_both [] h k = tt
      each_both (q ∷ ps) h k = ((h.0, k.0), each_both ps h.1 k.1)

  -- in each execution the values are a tuple: else a minimal pattern of them
  -- is forbidden, and its clause fails
  module _ (k : Constraint) (there : In k p.constraints) (inside : All (λ at. at.1 < p.points) k.scope) (long : All (λ tuple. length tuple ≡ length k.scope) k.tuples) where
    at_hand : List ℕ
    at_hand = values_at (map_in p a) k.scope

    as_long : length at_hand ≡ length k.scope
    unfolding at_hand
    as_long = length-map k.scope (λ at. slice_index (map_in p a) at.1)

    whole_kept : IsKept k.scope (whole at_hand)
    unfolding IsKept IsTrueEntry at_hand
    whole_kept = (
      subst (λ n. Part (places (whole at_hand)) (below n)) as_long (whole_places at_hand),
      each_zip (IsTrueEntry k.scope) at_hand 0 (length at_hand) refl
          (λ i low. let e : 0 + i ≡ i = omega arith in subst (λ j. IsTrueEntry k.scope (j, get_or at_hand i 0)) (sym e) (true_at k.scope i (omega (arith, low, as_long)) inside)),
    )

    fails : (q : Pattern) → IsKept k.scope q → is_minimal k.tuples q ≡ true → ⊥
    unfolding IsKept IsTrueEntry
    fails q kept minimal =
        let listed : AllByRecursion (λ e. has p.values e.1 ≡ true) q = weaker (IsTrueEntry k.scope) (λ e. has p.values e.1 ≡ true) (λ e h. h.0) q kept.1 in
        let one : In q (minimal_patterns (length k.scope) p.values k.tuples) = in_filter (is_minimal k.tuples) (patterns (length k.scope) p.values) q (is_pattern (length k.scope) p.values q kept.0 listed) minimal in
        let clause = denied p.values k.scope q in
        let among : In clause (flat_map (clauses_of p.values) p.constraints) = in_flat (clauses_of p.values) p.constraints k clause there (in_map (denied p.values k.scope) (minimal_patterns (length k.scope) p.values k.tuples) q one) in
        both_ways (list_any (holds a) clause) (none_holds k.scope q kept.1) (clause_holds clause (in_right (map (at_least_one p.values) (below p.points)) (flat_map (clauses_of p.values) p.constraints) clause among))

    absent : (Contains k.tuples at_hand → ⊥) → ⊥
    unfolding at_hand
    absent no_tuple =
        let each_long : AllByRecursion (λ tuple. length tuple ≡ length at_hand) k.tuples = weaker (λ tuple. length tuple ≡ length k.scope) (λ tuple. length tuple ≡ length at_hand) (λ tuple h. h ∙ sym as_long) k.tuples (recursion_from_All _ k.tuples long) in
        let least = shrunk k.tuples (IsKept k.scope) (less_kept k.scope) (length (whole at_hand)) (whole at_hand) (omega arith) whole_kept (whole_forbidden at_hand k.tuples each_long no_tuple) in
        fails least.0 least.1 least.2

    satisfied : Satisfies (map_in p a) k
    unfolding at_hand
    satisfied =
        elim (cases_Bool (satisfies (map_in p a) k)) [
          | inl right ↦ satisfies_says (map_in p a) k right
          | inr wrong ↦ absurd (absent (λ is. both_ways (satisfies (map_in p a) k) wrong (satisfies_tests (map_in p a) k is)))
        ]

  pub gives_solution : IsSolution p (map_in p a)
  gives_solution = record {
    long = length-map (below p.points) (least_true p.values a) ∙ length-below p.points;
    satisfies = All-from_recursion _ p.constraints (each p.constraints (λ k there. there) (recursion_from_All _ p.constraints well.in_range) (recursion_from_All _ p.constraints full));
  }
    where
      each : (ks : List Constraint) → ((k : Constraint) → In k ks → In k p.constraints) → AllByRecursion (λ k. All (λ at. at.1 < p.points) k.scope) ks → AllByRecursion (λ k. All (λ tuple. length tuple ≡ length k.scope) k.tuples) ks → AllByRecursion (Satisfies (map_in p a)) ks
      each [] f h l = tt
      each (k ∷ ks) f h l = (satisfied k (f k (inl refl)) h.0 l.0, each ks (λ j there. f j (inr there)) h.1 l.1)
