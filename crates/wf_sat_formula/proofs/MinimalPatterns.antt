-- A forbidden pattern has a minimal forbidden one in it.
use Rattle.std.proofs.Common.{◌≡◌, ℕ, zero, suc, ◌<◌, ◌≤◌, ◌==◌, Bool, true, not, List, [], ◌∷◌, map, filter, zip, length, inl, inr, refl, sym, ap, ◌∙◌, subst, arith, eq-eqb}
use Rattle.std.specs.List.{AllByRecursion, list_any}
use Rattle.std.proofs.lemmas.Bool.{cases_Bool, or_cases, and_from, and_parts, not_from_false, false≢true}
use Rattle.std.proofs.lemmas.List.{length-map}
use Rattle.wf_model.specs.Lists.{below, has, lists_of}
use Rattle.wf_model.specs.Simplex.{parts_of}
use Rattle.wf_model.specs.Task.{Tuple}
use Rattle.wf_model.proofs.Lemmas.{length-below, weaker, each_map, each_flat, each_filter, always, both, each_of_lists}
use Rattle.wf_sat_formula.specs.Patterns.{Entry, Pattern, is_forbidden, one_less, is_minimal, place_lists, patterns_at, patterns, minimal_patterns}
use Rattle.wf_sat_formula.proofs.Members.{In, Part, in_filter, in_flat, in_map, in_below, in_parts, in_lists, part_rest, part_long, each_below, each_of_parts, has_each}

-- ---- one entry less

-- what holds of each entry holds of those that are left
pub less_each : (P : Entry → Type 0) (pattern : Pattern) → AllByRecursion P pattern → AllByRecursion (AllByRecursion P) (one_less pattern)
less_each P [] h = tt
less_each P (e ∷ es) h =
    (h.1, each_map (AllByRecursion P) (λ rest. e ∷ rest) (one_less es) (weaker (AllByRecursion P) (λ rest. P e × AllByRecursion P rest) (λ rest q. (h.0, q)) (one_less es) (less_each P es h.1)))

abbrev pub places : Pattern → List ℕ
places pattern = map (λ e. e.0) pattern

less_kept : (e : Entry) (es : Pattern) (xs : List ℕ) → Part (e.0 ∷ places es) xs →
    ((ys : List ℕ) → Part (places es) ys → AllByRecursion (λ rest. Part (places rest) ys) (one_less es)) → AllByRecursion (λ rest. Part (e.0 ∷ places rest) xs) (one_less es)
less_kept e es [] h f = absurd h
less_kept e es (x ∷ xs) (inl here) f =
    weaker (λ rest. Part (places rest) xs) (λ rest. Part (e.0 ∷ places rest) (x ∷ xs)) (λ rest q. inl (here.0, q)) (one_less es) (f xs here.1)
less_kept e es (x ∷ xs) (inr later) f =
    weaker (λ rest. Part (e.0 ∷ places rest) xs) (λ rest. Part (e.0 ∷ places rest) (x ∷ xs)) (λ rest q. inr q) (one_less es) (less_kept e es xs later f)

pub less_part : (pattern : Pattern) (xs : List ℕ) → Part (places pattern) xs → AllByRecursion (λ less. Part (places less) xs) (one_less pattern)
less_part [] xs h = tt
less_part (e ∷ es) xs h =
    (part_rest e.0 (places es) xs h, each_map (λ less. Part (places less) xs) (λ rest. e ∷ rest) (one_less es) (less_kept e es xs h (less_part es)))

less_long : (pattern : Pattern) → AllByRecursion (λ less. length less < length pattern) (one_less pattern)
less_long [] = tt
less_long (e ∷ es) = (
  omega arith,
  each_map (λ less. length less < length (e ∷ es)) (λ rest. e ∷ rest) (one_less es)
      (weaker (λ rest. length rest < length es) (λ rest. length (e ∷ rest) < length (e ∷ es)) (λ rest q. omega (arith, q)) (one_less es) (less_long es)),
)

-- ---- from a forbidden pattern to a minimal one

module _ (tuples : List Tuple) (R : Pattern → Type 0) (keeps : (pattern : Pattern) → R pattern → AllByRecursion R (one_less pattern)) where
  found : (n : ℕ) (ps : List Pattern) → AllByRecursion R ps → AllByRecursion (λ q. length q < suc n) ps → list_any (is_forbidden tuples) ps ≡ true →
      ((q : Pattern) → length q ≤ n → R q → is_forbidden tuples q ≡ true → (m : Pattern) × R m × (is_minimal tuples m ≡ true)) → (m : Pattern) × R m × (is_minimal tuples m ≡ true)
  found n [] r low h next = absurd (false≢true h)
  found n (q ∷ ps) r low h next =
      elim (or_cases (is_forbidden tuples q) (list_any (is_forbidden tuples) ps) h) [
        | inl here ↦ next q (omega (arith, low.0)) r.0 here
        | inr later ↦ found n ps r.1 low.1 later next
      ]

  pub shrunk : (n : ℕ) (pattern : Pattern) → length pattern ≤ n → R pattern → is_forbidden tuples pattern ≡ true → (q : Pattern) × R q × (is_minimal tuples q ≡ true)
  shrunk zero [] low r h = ([], r, and_from (is_forbidden tuples []) (not (list_any (is_forbidden tuples) (one_less []))) h refl)
  shrunk zero (e ∷ es) low r h = absurd (let none : ⊥ = omega (arith, low) in none)
  shrunk (suc n) pattern low r h =
      elim (cases_Bool (list_any (is_forbidden tuples) (one_less pattern))) [
        | inl some ↦ found n (one_less pattern) (keeps pattern r)
            (weaker (λ q. length q < length pattern) (λ q. length q < suc n) (λ q k. omega (arith, k, low)) (one_less pattern) (less_long pattern)) some (shrunk n)
        | inr none ↦ (pattern, r, and_from (is_forbidden tuples pattern) (not (list_any (is_forbidden tuples) (one_less pattern))) h (not_from_false (list_any (is_forbidden tuples) (one_less pattern)) none))
      ]

-- ---- which patterns there are

paired : (pattern : Pattern) → zip (places pattern) (map (λ e. e.1) pattern) ≡ pattern
paired [] = refl
paired (e ∷ es) = ap (λ rest. e ∷ rest) (paired es)

-- a pattern on some of the places with listed values is one of the patterns
pub is_pattern : (n : ℕ) (values : List ℕ) (pattern : Pattern) → Part (places pattern) (below n) → AllByRecursion (λ e. has values e.1 ≡ true) pattern → In pattern (patterns n values)
is_pattern n values pattern part listed =
    let ps = places pattern in
    let vs = map (λ (e : Entry). e.1) pattern in
    let same : length vs ≡ length ps = length-map pattern (λ (e : Entry). e.1) ∙ sym (length-map pattern (λ (e : Entry). e.0)) in
    let few : length ps ≤ n = omega (arith, part_long ps (below n) part, length-below n) in
    let chosen : In ps (place_lists n) = in_flat (λ size. filter (λ (qs : List ℕ). length qs == size) (parts_of (below n))) (below (suc n)) (length ps) ps
    (in_below (suc n) (length ps) (omega (arith, few)))
    (in_filter (λ (qs : List ℕ). length qs == length ps) (parts_of (below n)) ps (in_parts ps (below n) part) (eq-eqb (length ps) (length ps) refl)) in
    let values_are : In vs (lists_of values (length ps)) = subst (λ k. In vs (lists_of values k)) same (in_lists values vs (each_map (λ x. has values x ≡ true) (λ (e : Entry). e.1) pattern listed)) in
    in_flat (patterns_at values) (place_lists n) ps pattern chosen
    (subst (λ p. In p (patterns_at values ps)) (paired pattern) (in_map (zip ps) (lists_of values (length ps)) vs values_are))

-- an entry is at one of the places, and has a listed value
abbrev pub IsEntry : ℕ → List ℕ → Entry → Type 0
IsEntry n values e = (e.0 < n) × (has values e.1 ≡ true)

entries_zip : (n : ℕ) (values ps vs : List ℕ) → AllByRecursion (λ p. p < n) ps → AllByRecursion (λ x. has values x ≡ true) vs → AllByRecursion (IsEntry n values) (zip ps vs)
entries_zip n values [] vs h k = tt
entries_zip n values (p ∷ ps) [] h k = tt
entries_zip n values (p ∷ ps) (x ∷ vs) h k = ((h.0, k.0), entries_zip n values ps vs h.1 k.1)

-- the patterns have such entries alone
pub each_pattern : (n : ℕ) (values : List ℕ) → AllByRecursion (AllByRecursion (IsEntry n values)) (patterns n values)
each_pattern n values =
    each_flat (AllByRecursion (IsEntry n values)) (patterns_at values) (place_lists n)
    (weaker (AllByRecursion (λ p. p < n)) (λ ps. AllByRecursion (AllByRecursion (IsEntry n values)) (patterns_at values ps))
    (λ ps low. each_map (AllByRecursion (IsEntry n values)) (zip ps) (lists_of values (length ps))
    (weaker (AllByRecursion (λ x. has values x ≡ true)) (λ vs. AllByRecursion (IsEntry n values) (zip ps vs)) (λ vs k. entries_zip n values ps vs low k)
    (lists_of values (length ps)) (each_of_lists (λ x. has values x ≡ true) values (length ps) (has_each values))))
    (place_lists n)
    (each_flat (AllByRecursion (λ p. p < n)) (λ size. filter (λ (qs : List ℕ). length qs == size) (parts_of (below n))) (below (suc n))
    (always (λ size. AllByRecursion (AllByRecursion (λ p. p < n)) (filter (λ (qs : List ℕ). length qs == size) (parts_of (below n))))
    (λ size. each_filter (AllByRecursion (λ p. p < n)) (λ (qs : List ℕ). length qs == size) (parts_of (below n)) (each_of_parts (λ p. p < n) (below n) (each_below n))) (below (suc n)))))

pub each_filtered : {X : Type 0} (test : X → Bool) (xs : List X) → AllByRecursion (λ x. test x ≡ true) (filter test xs)
each_filtered test [] = tt
each_filtered test (x ∷ xs) = elim (cases_Bool (test x)) [ inl pass ↦ rw pass (pass, each_filtered test xs) | inr fail ↦ rw fail (each_filtered test xs) ]

-- and so have the minimal ones, which are forbidden
pub each_minimal : (n : ℕ) (values : List ℕ) (tuples : List Tuple) → AllByRecursion (λ q. AllByRecursion (IsEntry n values) q × (is_forbidden tuples q ≡ true)) (minimal_patterns n values tuples)
each_minimal n values tuples =
    both (AllByRecursion (IsEntry n values)) (λ q. is_minimal tuples q ≡ true) (λ q. AllByRecursion (IsEntry n values) q × (is_forbidden tuples q ≡ true))
    (λ q h k. (h, (and_parts (is_forbidden tuples q) (not (list_any (is_forbidden tuples) (one_less q))) k).0))
    (minimal_patterns n values tuples)
    (each_filter (AllByRecursion (IsEntry n values)) (is_minimal tuples) (patterns n values) (each_pattern n values))
    (each_filtered (is_minimal tuples) (patterns n values))
