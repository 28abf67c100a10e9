-- What states a solution is a model of the problem's formula.
use Rattle.std.proofs.Common.{◌≡◌, ℕ, zero, suc, ◌+◌, ◌<◌, ◌==◌, Bool, true, false, not, List, [], ◌∷◌, map, flat_map, length, get_or, replicate, slice_index, inl, inr, refl, sym, ap, ◌∙◌, subst, arith, eqb-true, eq-eqb}
use Rattle.std.specs.List.{AllByRecursion, list_any, enumerate_from}
use Rattle.std.proofs.lemmas.Bool.{cases_Bool, or_cases, or_parts, and_from, or_left, or_right, both_ways, not-true, not-false, false≢true}
use Rattle.std.proofs.lemmas.List.{get_or-map}
use Rattle.std.proofs.lemmas.List.Elements.{recursion_from_All, All-from_recursion}
use Rattle.wf_model.specs.Lists.{below, has}
use Rattle.wf_model.specs.Box.{LiesIn, root, candidates, has_at}
use Rattle.wf_model.specs.Problem.{Problem, Constraint, Participant, IsSolution, IsWellFormed, Satisfies, values_at}
use Rattle.wf_model.proofs.Lemmas.{weaker, each_append, each_map, each_flat, has_value}
use Rattle.wf_sat_text.specs.Clauses.Formula.{Assignment, Clause, holds, pos, IsModel}
use Rattle.wf_sat_formula.specs.Patterns.{Pattern, fits, is_forbidden, minimal_patterns}
use Rattle.wf_sat_formula.specs.Encoding.{variable, at_least_one, point_at, denied, clauses_of, formula_of, stating}
use Rattle.wf_sat_formula.proofs.Members.{In, in_from_contains, each_below}
use Rattle.wf_sat_formula.proofs.MinimalPatterns.{IsEntry, each_minimal}
use Rattle.wf_sat_formula.proofs.Variables.{variable_tells}
use Rattle.wf_sat_formula.proofs.Models.{any_map}

-- ---- what is stated

-- the pairs of a list that a variable is that of
abbrev pub stated_from : List ℕ → ℕ → List ℕ → ℕ → Bool
stated_from values c m n = list_any (λ at. variable values at.0 at.1 == n) (enumerate_from c m)

states : (values : List ℕ) (c : ℕ) (m : List ℕ) (v : ℕ) → v < length m → stated_from values c m (variable values (c + v) (slice_index m v)) ≡ true
states values c [] v h = absurd (let none : ⊥ = omega (arith, h) in none)
states values c (x ∷ m) zero h =
    let e : c ≡ c + 0 = omega arith in
    or_left (variable values c x == variable values (c + 0) x) (stated_from values (c + 1) m (variable values (c + 0) x)) (eq-eqb (variable values c x) (variable values (c + 0) x) (ap (λ u. variable values u x) e))
states values c (x ∷ m) (suc v) h =
    let e : c + 1 + v ≡ c + suc v = omega arith in
    or_right (variable values c x == variable values (c + suc v) (slice_index m v)) (stated_from values (c + 1) m (variable values (c + suc v) (slice_index m v)))
    (subst (λ u. stated_from values (c + 1) m (variable values u (slice_index m v)) ≡ true) e (states values (c + 1) m v (omega (arith, h))))

-- no other value is stated at a point
pub stated_alone : (values : List ℕ) (c : ℕ) (m : List ℕ) (v x : ℕ) → AllByRecursion (λ y. has values y ≡ true) m → has values x ≡ true → stated_from values c m (variable values (c + v) x) ≡ true → slice_index m v ≡ x
stated_alone values c [] v x listed h s = absurd (false≢true s)
stated_alone values c (y ∷ m) zero x listed h s =
    elim (or_cases (variable values c y == variable values (c + 0) x) (stated_from values (c + 1) m (variable values (c + 0) x)) s) [
      | inl here ↦ (variable_tells values c (c + 0) y x listed.0 h (eqb-true (variable values c y) (variable values (c + 0) x) here)).1
      | inr later ↦ absurd (not_before values (c + 1) m (c + 0) x listed.1 h (omega arith) later)
    ]
  where
    not_before : (values : List ℕ) (c : ℕ) (m : List ℕ) (w x : ℕ) → AllByRecursion (λ y. has values y ≡ true) m → has values x ≡ true → w < c → stated_from values c m (variable values w x) ≡ true → ⊥
    not_before values c [] w x listed h low s = false≢true s
    not_before values c (y ∷ m) w x listed h low s =
        elim (or_cases (variable values c y == variable values w x) (stated_from values (c + 1) m (variable values w x)) s) [
          | inl here ↦ let same = variable_tells values c w y x listed.0 h (eqb-true (variable values c y) (variable values w x) here) in let none : ⊥ = omega (arith, same.0, low) in none
          | inr later ↦ not_before values (c + 1) m w x listed.1 h (omega (arith, low)) later
        ]
stated_alone values c (y ∷ m) (suc v) x listed h s =
    elim (or_cases (variable values c y == variable values (c + suc v) x) (stated_from values (c + 1) m (variable values (c + suc v) x)) s) [
      | inl here ↦ let same = variable_tells values c (c + suc v) y x listed.0 h (eqb-true (variable values c y) (variable values (c + suc v) x) here) in absurd (let none : ⊥ = omega (arith, same.0) in none)
      | inr later ↦ let e : c + suc v ≡ c + 1 + v = omega arith in stated_alone values (c + 1) m v x listed.1 h (subst (λ u. stated_from values (c + 1) m (variable values u x) ≡ true) e later)
    ]

-- ---- tuples with each entry

has_at_place : (f : Participant → ℕ) (scope : List Participant) (i x : ℕ) → i < length scope → f (get_or scope i (0, 0)) ≡ x → has_at (map f scope) i x ≡ true
has_at_place f [] i x low same = absurd (let none : ⊥ = omega (arith, low) in none)
has_at_place f (at ∷ scope) zero x low same = eq-eqb (f at) x same
has_at_place f (at ∷ scope) (suc i) x low same = has_at_place f scope i x (omega (arith, low)) same

any_in : {X : Type 0} (test : X → Bool) (xs : List X) (x : X) → In x xs → test x ≡ true → list_any test xs ≡ true
any_in test [] x h pass = absurd h
any_in test (y ∷ xs) x (inl same) pass = or_left (test y) (list_any test xs) (ap test same ∙ pass)
any_in test (y ∷ xs) x (inr later) pass = or_right (test y) (list_any test xs) (any_in test xs x later pass)

any_has : (test : ℕ → Bool) (xs : List ℕ) (x : ℕ) → has xs x ≡ true → test x ≡ true → list_any test xs ≡ true
any_has test [] x h pass = absurd (false≢true h)
any_has test (y ∷ xs) x h pass =
    elim (or_cases (y == x) (has xs x) h) [
      | inl here ↦ or_left (test y) (list_any test xs) (ap test (eqb-true y x here) ∙ pass)
      | inr later ↦ or_right (test y) (list_any test xs) (any_has test xs x later pass)
    ]

-- each point of the root has all values
pub root_candidates : (values : List ℕ) (v n : ℕ) → v < n → candidates (replicate n values) v ≡ values
root_candidates values v zero h = absurd (let none : ⊥ = omega (arith, h) in none)
root_candidates values zero (suc n) h = refl
root_candidates values (suc v) (suc n) h = root_candidates values v n (omega (arith, h))

module _ (p : Problem) (m : List ℕ) (well : IsWellFormed p) (solves : IsSolution p m) (lies : LiesIn m (root p)) where
  listed_at : (v : ℕ) → v < p.points → has p.values (slice_index m v) ≡ true
  listed_at v low = subst (λ set. has set (slice_index m v) ≡ true) (root_candidates p.values v p.points low) (has_value m (root p) v lies (omega (arith, low, solves.long)))

  pub all_listed : AllByRecursion (λ y. has p.values y ≡ true) m
  all_listed = each m p.points lies
    where
      each : (xs : List ℕ) (n : ℕ) → LiesIn xs (replicate n p.values) → AllByRecursion (λ y. has p.values y ≡ true) xs
      each [] n h = tt
      each (x ∷ xs) zero h = absurd h
      each (x ∷ xs) (suc n) h = (h.0, each xs n h.1)

  says : Assignment
  says = stating p.values m

  point_holds : (v : ℕ) → v < p.points → list_any (holds says) (at_least_one p.values v) ≡ true
  unfolding says
  point_holds v low =
      let e : 0 + v ≡ v = omega arith in
      any_map (holds says) (λ x. pos (variable p.values v x)) p.values
      ∙ any_has (λ x. says (variable p.values v x)) p.values (slice_index m v) (listed_at v low)
      (subst (λ u. says (variable p.values u (slice_index m v)) ≡ true) e (states p.values 0 m v (omega (arith, low, solves.long))))

  -- where no literal of a clause holds, the values have each entry of the pattern
  entries_had : (scope : List Participant) (q : Pattern) → AllByRecursion (IsEntry (length scope) p.values) q → list_any (holds says) (denied p.values scope q) ≡ false → fits q (values_at m scope) ≡ true
  unfolding says
  entries_had scope [] h none = refl
  entries_had scope (e ∷ es) h none =
      let parts = or_parts (not (says (variable p.values (point_at scope e.0) e.1))) (list_any (holds says) (denied p.values scope es)) none in
      let point : point_at scope e.0 ≡ (get_or scope e.0 (0, 0)).1 = get_or-map (λ (at : Participant). at.1) scope e.0 (0, 0) 0 h.0.0 in
      let zero_more : point_at scope e.0 ≡ 0 + point_at scope e.0 = omega arith in
      let said : stated_from p.values 0 m (variable p.values (0 + point_at scope e.0) e.1) ≡ true =
      subst (λ u. says (variable p.values u e.1) ≡ true) zero_more (not-false (says (variable p.values (point_at scope e.0) e.1)) parts.0) in
      let value : slice_index m (point_at scope e.0) ≡ e.1 = stated_alone p.values 0 m (point_at scope e.0) e.1 all_listed h.0.1 said in
      and_from (has_at (values_at m scope) e.0 e.1) (fits es (values_at m scope))
      (has_at_place (λ (at : Participant). slice_index m at.1) scope e.0 e.1 h.0.0 (ap (slice_index m) (sym point) ∙ value))
      (entries_had scope es h.1 parts.1)

  denied_holds : (k : Constraint) → Satisfies m k → (q : Pattern) → AllByRecursion (IsEntry (length k.scope) p.values) q × (is_forbidden k.tuples q ≡ true) → list_any (holds says) (denied p.values k.scope q) ≡ true
  denied_holds k right q h =
      elim (cases_Bool (list_any (holds says) (denied p.values k.scope q))) [
        | inl some ↦ some
        | inr none ↦ absurd (both_ways (list_any (fits q) k.tuples) (not-true (list_any (fits q) k.tuples) h.1)
            (any_in (fits q) k.tuples (values_at m k.scope) (in_from_contains k.tuples (values_at m k.scope) right) (entries_had k.scope q h.0 none)))
      ]

  pub is_model : IsModel (stating p.values m) (formula_of p)
  unfolding says
  is_model =
      All-from_recursion _ (formula_of p).clauses (each_append Holds (map (at_least_one p.values) (below p.points)) (flat_map (clauses_of p.values) p.constraints)
      (each_map Holds (at_least_one p.values) (below p.points) (weaker (λ v. v < p.points) (λ v. Holds (at_least_one p.values v)) point_holds (below p.points) (each_below p.points)))
      (each_flat Holds (clauses_of p.values) p.constraints (weaker (Satisfies m) (λ k. AllByRecursion Holds (clauses_of p.values k))
      (λ k right. each_map Holds (denied p.values k.scope) (minimal_patterns (length k.scope) p.values k.tuples)
      (weaker (λ q. AllByRecursion (IsEntry (length k.scope) p.values) q × (is_forbidden k.tuples q ≡ true)) (λ q. Holds (denied p.values k.scope q)) (denied_holds k right)
      (minimal_patterns (length k.scope) p.values k.tuples) (each_minimal (length k.scope) p.values k.tuples)))
      p.constraints (recursion_from_All _ p.constraints solves.satisfies))))
    where
      Holds : Clause → Type 0
      Holds clause = list_any (holds (stating p.values m)) clause ≡ true
