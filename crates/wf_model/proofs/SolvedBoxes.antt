-- A closed box with one candidate at each point is a solution.
use Rattle.std.proofs.Common.{◌≡◌, ℕ, zero, suc, ◌<◌, ◌≤◌, ◌==◌, ◌&&◌, Bool, true, false, not, List, [], ◌∷◌, ◌++◌, map, filter, flat_map, length, slice_index, nat_lt, None, All, Contains, sym, refl, ◌∙◌, subst, inl, inr, arith, eqb-true, ltb-false}
use Rattle.std.specs.List.{AllByRecursion}
use Rattle.std.specs.Cmp.Lexicographic.{pointwise}
use Rattle.std.proofs.lemmas.Bool.{cases_Bool, or_cases, or_left, and_parts, not-false, false≢true, eq-eqb}
use Rattle.std.proofs.lemmas.List.{length-map}
use Rattle.std.proofs.lemmas.List.Elements.{recursion_from_All, All-from_recursion}
use Rattle.std.proofs.lemmas.List.Folds.{Any-from_list_any}
use Rattle.wf_model.specs.Lists.{has, distinct}
use Rattle.wf_model.specs.Task.{Tuple}
use Rattle.wf_model.specs.Problem.{Problem, Constraint, IsSolution, Satisfies, values_at, IsWellFormed}
use Rattle.wf_model.specs.Box.{Box, LiesIn, candidates, first_open, has_at, is_alive, is_supported_in, sets_of}
use Rattle.wf_model.specs.Closing.{Loss, same_candidate, continued, take_out, take_out_each, places, lost_at, lost, sweep_from, sweep}
use Rattle.wf_model.proofs.Headline.{both}
use Rattle.wf_model.proofs.LastSweep.{HasLine, line_taken, line_continued}
use Rattle.wf_model.proofs.Order.{position_none}
use Rattle.wf_model.proofs.ClosingKeeps.{Full}

-- ---- a sweep that loses nothing

module _ (box : Box) where
  -- a sweep without lines loses nothing in any execution
  pub sweep_nothing : (e : ℕ) (ks : List Constraint) → (sweep_from e ks box).lines ≡ [] → AllByRecursion (λ k. lost box k ≡ []) ks
  sweep_nothing e [] h = tt
  sweep_nothing e (k ∷ ks) h = by_lost (lost box k) refl h (sweep_nothing (suc e) ks)
    where
      by_lost : (xs : List Loss) → lost box k ≡ xs → (continued (take_out_each e xs box).lines (take_out_each e xs box).left (sweep_from (suc e) ks)).lines ≡ [] →
          ((sweep_from (suc e) ks box).lines ≡ [] → AllByRecursion (λ c. lost box c ≡ []) ks) → (lost box k ≡ []) × AllByRecursion (λ c. lost box c ≡ []) ks
      by_lost [] is h next = (is, next h)
      by_lost (x ∷ xs) is h next =
          absurd (subst HasLine h (line_continued (take_out_each e (x ∷ xs) box).lines (take_out_each e (x ∷ xs) box).left (sweep_from (suc e) ks)
          (line_continued (take_out e x box).lines (take_out e x box).left (take_out_each e xs) (line_taken e x _ _))))

pub nothing_distinct : {X : Type 0} (same : X → X → Bool) (xs : List X) → distinct same xs ≡ [] → xs ≡ []
nothing_distinct same [] h = refl
nothing_distinct same (x ∷ xs) h = absurd (let none : ⊥ = cc in none)

nothing_first : {X : Type 0} (xs ys : List X) → xs ++ ys ≡ [] → xs ≡ []
nothing_first [] ys h = refl
nothing_first (x ∷ xs) ys h = absurd (let none : ⊥ = cc in none)

pub nothing_mapped : {X Y : Type 0} (f : X → Y) (xs : List X) → map f xs ≡ [] → xs ≡ []
nothing_mapped f [] h = refl
nothing_mapped f (x ∷ xs) h = absurd (let none : ⊥ = cc in none)

none_passes : (test : ℕ → Bool) (a : ℕ) (xs : List ℕ) → filter test (a ∷ xs) ≡ [] → test a ≡ false
none_passes test a xs h =
    elim (cases_Bool (test a)) [ inl pass ↦ absurd (let e : a ∷ filter test xs ≡ [] = rw pass at h in let none : ⊥ = cc in none) | inr fail ↦ fail ]

-- where an execution has lost nothing, the first candidate at its first place is supported
first_supported : (box : Box) (at : ℕ × ℕ) (more : List (ℕ × ℕ)) (tuples : List Tuple) (a : ℕ) (set : List ℕ) →
    lost box (record { scope = at ∷ more; tuples = tuples }) ≡ [] → candidates box at.1 ≡ a ∷ set → is_supported_in (record { scope = at ∷ more; tuples = tuples }) box 0 a ≡ true
first_supported box at more tuples a set h is =
    let k : Constraint = record { scope = at ∷ more; tuples = tuples } in
    let all : flat_map (lost_at box k) (places (at ∷ more)) ≡ [] = nothing_distinct same_candidate _ h in
    let here : lost_at box k (0, at.0, at.1) ≡ [] = nothing_first (lost_at box k (0, at.0, at.1)) _ all in
    let kept : filter (λ b. not (is_supported_in k box 0 b)) (candidates box at.1) ≡ [] = nothing_mapped (λ b. let x : Loss = record { process = at.0; value = b; point = at.1 } in x) _ here in
    not-false _ (none_passes (λ b. not (is_supported_in k box 0 b)) a set (subst (λ xs. filter (λ b. not (is_supported_in k box 0 b)) xs ≡ []) is kept))

-- ---- one candidate at each point

-- each point has one candidate
abbrev pub Single : Box → Type 0
Single box = AllByRecursion (λ set. length set ≡ 1) box

one : (set : List ℕ) → 0 < length set → nat_lt 1 (length set) ≡ false → length set ≡ 1
one set some few = let low : length set ≤ 1 = ltb-false 1 (length set) few in omega (arith, low, some)

pub single_unless_open : (box : Box) → Full box → first_open box ≡ None → Single box
single_unless_open box full none =
    both (λ (set : List ℕ). 0 < length set) (λ (set : List ℕ). nat_lt 1 (length set) ≡ false) (λ (set : List ℕ). length set ≡ 1)
    one box full (position_none (λ (set : List ℕ). nat_lt 1 (length set)) box none)

-- the only values
abbrev pub values_in : Box → List ℕ
values_in box = map (λ set. slice_index set 0) box

pub only_one : (set : List ℕ) → length set ≡ 1 → set ≡ slice_index set 0 ∷ []
only_one [] h = absurd (let none : ⊥ = omega (arith, h) in none)
only_one (a ∷ []) h = refl
only_one (a ∷ b ∷ set) h = absurd (let none : ⊥ = omega (arith, h) in none)

single_at : (box : Box) (v : ℕ) → Single box → v < length box → candidates box v ≡ slice_index (values_in box) v ∷ []
single_at [] v h within = absurd (let none : ⊥ = omega (arith, within) in none)
single_at (s ∷ box) zero h within = only_one s h.0
single_at (s ∷ box) (suc v) h within = single_at box v h.1 (omega (arith, within))

has_only : (set : List ℕ) → length set ≡ 1 → has set (slice_index set 0) ≡ true
has_only set h = subst (λ xs. has xs (slice_index set 0) ≡ true) (sym (only_one set h)) (or_left _ false (eq-eqb (slice_index set 0) _ refl))

pub values_lie : (box : Box) → Single box → LiesIn (values_in box) box
values_lie [] h = tt
values_lie (s ∷ box) h = (has_only s h.0, values_lie box h.1)

only_value : (set : List ℕ) (x : ℕ) → length set ≡ 1 → has set x ≡ true → slice_index set 0 ≡ x
only_value set x one here =
    elim (or_cases (slice_index set 0 == x) false (subst (λ xs. has xs x ≡ true) (only_one set one) here)) [ inl same ↦ eqb-true (slice_index set 0) x same | inr other ↦ absurd (false≢true other) ]

-- no other map lies in the box
pub values_alone : (m : List ℕ) (box : Box) → Single box → LiesIn m box → values_in box ≡ m
values_alone [] [] h lies = refl
values_alone [] (s ∷ box) h lies = absurd lies
values_alone (x ∷ m) [] h lies = absurd lies
values_alone (x ∷ m) (s ∷ box) h lies = λ i. only_value s x h.0 lies.0 i ∷ values_alone m box h.1 lies.1 i

-- a tuple that is alive is the one of the only values
alive_tuple : (box : Box) (scope : List (ℕ × ℕ)) (tuple : Tuple) → Single box → AllByRecursion (λ at. at.1 < length box) scope →
    pointwise has (map (λ at. candidates box at.1) scope) tuple ≡ true → tuple ≡ values_at (values_in box) scope
alive_tuple box [] [] single within h = refl
alive_tuple box [] (x ∷ tuple) single within h = absurd (false≢true h)
alive_tuple box (at ∷ scope) [] single within h = absurd (false≢true h)
alive_tuple box (at ∷ scope) (x ∷ tuple) single within h =
    let parts = and_parts (has (candidates box at.1) x) (pointwise has (map (λ q. candidates box q.1) scope) tuple) h in
    let first : slice_index (values_in box) at.1 ≡ x = (elim (or_cases (slice_index (values_in box) at.1 == x) false (subst (λ xs. has xs x ≡ true) (single_at box at.1 single within.0) parts.0)) [
      | inl same ↦ eqb-true _ x same
      | inr other ↦ absurd (false≢true other)
    ]) in
    λ i. sym first i ∷ alive_tuple box scope tuple single within.1 parts.1 i

supported_solves : (box : Box) (k : Constraint) (place a : ℕ) → Single box → AllByRecursion (λ at. at.1 < length box) k.scope → is_supported_in k box place a ≡ true → Satisfies (values_in box) k
supported_solves box k place a single within h =
    let found = Any-from_list_any (λ tuple. has_at tuple place a && is_alive (sets_of box k) tuple) k.tuples h in
    let parts = and_parts (has_at found.1 place a) (is_alive (sets_of box k) found.1) found.4 in
    subst (Contains k.tuples) (alive_tuple box k.scope found.1 single within parts.1) (found.0, found.2, found.3)

satisfied : (box : Box) (k : Constraint) → Single box → lost box k ≡ [] → 0 < length k.scope → AllByRecursion (λ at. at.1 < length box) k.scope → Satisfies (values_in box) k
satisfied box k single none some within = by_scope k.scope refl
  where
    by_scope : (scope : List (ℕ × ℕ)) → k.scope ≡ scope → Satisfies (values_in box) k
    by_scope [] is = absurd (let empty : 0 < 0 = subst (λ (s : List (ℕ × ℕ)). 0 < length s) is some in let none : ⊥ = omega (arith, empty) in none)
    by_scope (at ∷ more) is =
        let first : at.1 < length box = (subst (AllByRecursion (λ (q : ℕ × ℕ). q.1 < length box)) is within).0 in
        let set = single_at box at.1 single first in
        supported_solves box k 0 (slice_index (values_in box) at.1) single within
        (subst (λ s. is_supported_in (record { scope = s; tuples = k.tuples }) box 0 (slice_index (values_in box) at.1) ≡ true) (sym is)
        (first_supported box at more k.tuples (slice_index (values_in box) at.1) []
        (subst (λ s. lost box (record { scope = s; tuples = k.tuples }) ≡ []) is none) set))

-- where a further sweep loses nothing, the only values are a solution
pub single_solves : (p : Problem) → IsWellFormed p → (box : Box) → length box ≡ p.points → Single box → (sweep p box).lines ≡ [] → IsSolution p (values_in box)
single_solves p well box long single stable = record {
  long = length-map box _ ∙ long;
  satisfies = All-from_recursion _ p.constraints
      (both (λ k. lost box k ≡ []) (λ (k : Constraint). (0 < length k.scope) × All (λ at. at.1 < p.points) k.scope) (Satisfies (values_in box))
      (λ k none h. satisfied box k single none h.0 (subst (λ n. AllByRecursion (λ (at : ℕ × ℕ). at.1 < n) k.scope) (sym long) (recursion_from_All _ k.scope h.1)))
      p.constraints (sweep_nothing box 0 p.constraints stable)
      (both (λ (k : Constraint). 0 < length k.scope) (λ (k : Constraint). All (λ at. at.1 < p.points) k.scope) (λ (k : Constraint). (0 < length k.scope) × All (λ at. at.1 < p.points) k.scope)
      (λ k h q. (h, q)) p.constraints (recursion_from_All _ p.constraints well.has_places) (recursion_from_All _ p.constraints well.in_range)));
}
