-- What closing leaves: every solution, and a box in which each candidate is supported.
use Rattle.std.proofs.Common.{◌≡◌, ℕ, zero, suc, ◌+◌, ◌<◌, ◌==◌, Bool, true, false, not, List, [], ◌∷◌, ◌++◌, map, filter, flat_map, length, slice_get, Option, Some, None, refl, ap, ◌∙◌, subst, inl, inr, arith, eqb-true}
use Rattle.std.specs.List.{AllByRecursion, enumerate_from}
use Rattle.std.proofs.lemmas.Bool.{cases_Bool, or_cases, ne_eqb, not-false, false≢true}
use Rattle.std.proofs.lemmas.List.Elements.{recursion_from_All, All-from_recursion}
use Rattle.wf_model.specs.Lists.{has}
use Rattle.wf_model.specs.Simplex.{is_ascending}
use Rattle.wf_model.specs.Problem.{Problem, Constraint, IsSolution, InRange, IsWellFormed}
use Rattle.wf_model.specs.Box.{Box, LiesIn, candidates, count, first_open, first_empty, is_supported_in}
use Rattle.wf_model.specs.Closing.{Step, Loss, same_candidate, keeps, places, lost_at, lost, sweep, unless_none, sweeps, closing_at, closing}
use Rattle.wf_model.specs.Laws.{IsBoxOf, IsClosedBranch}
use Rattle.wf_model.proofs.MapsAreSolutions.{weaker}
use Rattle.wf_model.proofs.TreesAreSound.{none_refutes}
use Rattle.wf_model.proofs.CanonicalSteps.{Leaves}
use Rattle.wf_model.proofs.CanonicalRefutations.{LeadsTo, leads_closing}
use Rattle.wf_model.proofs.LastSweep.{sweep_progress, Progress, closing_stable, HasLine}
use Rattle.wf_model.proofs.Ascending.{Ascends, ascends_from, is_ascending_from}
use Rattle.wf_model.proofs.RefutingLines.{each_at}
use Rattle.wf_model.proofs.Order.{position_none, position_none_from}
use Rattle.wf_model.proofs.ClosingKeeps.{Full, fully, Ascending, IsInside, closing_inside, closing_keeps_solution}
use Rattle.wf_model.proofs.SolvedBoxes.{values_in, single_unless_open, single_solves, sweep_nothing, nothing_distinct, nothing_mapped}

-- ---- solutions

-- a solution of the box lies in what closing leaves
pub solution_left : (p : Problem) → InRange p → (m : List ℕ) → IsSolution p m → (box : Box) → LiesIn m box → (b : Box) × ((closing p box).left ≡ Some b) × LiesIn m b
solution_left p in_range m solves box lies = by_left (closing p box).left refl (leads_closing p box) (closing_keeps_solution p in_range m solves box lies)
  where
    by_left : (o : Option Box) → (closing p box).left ≡ o → LeadsTo p box (closing p box).lines o → Leaves (LiesIn m) o → (b : Box) × ((closing p box).left ≡ Some b) × LiesIn m b
    by_left None is leads inside = absurd (none_refutes p in_range m solves leads.0 box leads.2 lies)
    by_left (Some b) is leads inside = (b, is, inside)

-- ---- the box that is left

not_empty : (set : List ℕ) → 0 < length set → (length set == 0) ≡ false
not_empty set h = ne_eqb (length set) 0 (λ e. let none : ⊥ = omega (arith, h, e) in none)

-- a box with a candidate at each point has no empty point
pub filled : (b : Box) → Full b → first_empty b ≡ None
filled b full =
    position_none_from (λ (set : List ℕ). length set == 0) b
    (weaker (λ (set : List ℕ). 0 < length set) (λ (set : List ℕ). (length set == 0) ≡ false) not_empty b full)

-- closing leaves a closed box within the box
pub closed_branch : (p : Problem) (box b : Box) → IsBoxOf p box → (closing p box).left ≡ Some b → IsClosedBranch p box b
closed_branch p box b is left =
    let in' : IsInside box b = subst (Leaves (IsInside box)) left (closing_inside p box) in
    let up : Ascending box = weaker (λ set. is_ascending set ≡ true) Ascends (λ set h. ascends_from set h) box (recursion_from_All _ box is.ascending) in record {
      is_box = record { long = in'.long ∙ is.long; ascending = All-from_recursion _ b (weaker Ascends (λ set. is_ascending set ≡ true) is_ascending_from b (in'.ascending up)) };
      closed = subst (Leaves (λ c. (sweep p c).lines ≡ [])) left (closing_stable p box);
      filled = filled b in'.full;
      within = in'.smaller;
    }

-- ---- support

nothing_each : {X Y : Type 0} (f : X → List Y) (xs : List X) → flat_map f xs ≡ [] → AllByRecursion (λ x. f x ≡ []) xs
nothing_each {Y = Y} f [] h = tt
nothing_each {Y = Y} f (x ∷ xs) h = by_parts (f x) (flat_map f xs) h refl (nothing_each f xs)
  where
    by_parts : (ys zs : List Y) → ys ++ zs ≡ [] → f x ≡ ys → (zs ≡ [] → AllByRecursion (λ z. f z ≡ []) xs) → (f x ≡ []) × AllByRecursion (λ z. f z ≡ []) xs
    by_parts [] zs h is next = (is, next h)
    by_parts (y ∷ ys) zs h is next = absurd (let none : ⊥ = cc in none)

at_place : (P : ℕ × ℕ × ℕ → Type 0) (n : ℕ) (scope : List (ℕ × ℕ)) (i c v : ℕ) → AllByRecursion P (map (λ (at : ℕ × (ℕ × ℕ)). (at.0, at.1.0, at.1.1)) (enumerate_from n scope)) → slice_get scope i ≡ Some (c, v) → P (n + i, c, v)
at_place P n [] i c v h at = absurd (let none : ⊥ = cc in none)
at_place P n (q ∷ scope) zero c v h at =
    let same : q ≡ (c, v) = cc in
    let z : n ≡ n + 0 = omega arith in
    subst P (λ j. (z j, (same j).0, (same j).1)) h.0
at_place P n (q ∷ scope) (suc i) c v h at =
    let z : (n + 1) + i ≡ n + suc i = omega arith in
    subst (λ k. P (k, c, v)) z (at_place P (n + 1) scope i c v h.1 at)

none_pass : (test : ℕ → Bool) (xs : List ℕ) → filter test xs ≡ [] → AllByRecursion (λ x. test x ≡ false) xs
none_pass test [] h = tt
none_pass test (x ∷ xs) h =
    elim (cases_Bool (test x)) [
      | inl pass ↦ absurd (let e : x ∷ filter test xs ≡ [] = rw pass at h in let none : ⊥ = cc in none)
      | inr fail ↦ (fail, none_pass test xs (rw fail at h))
    ]

pub each_with_value : (P : ℕ → Type 0) (xs : List ℕ) (a : ℕ) → AllByRecursion P xs → has xs a ≡ true → P a
each_with_value P [] a h is = absurd (false≢true is)
each_with_value P (x ∷ xs) a h is =
    elim (or_cases (x == a) (has xs a) is) [ inl here ↦ subst P (eqb-true x a here) h.0 | inr later ↦ each_with_value P xs a h.1 later ]

supported_where_nothing_lost : (box : Box) (k : Constraint) → lost box k ≡ [] → (i c v a : ℕ) → slice_get k.scope i ≡ Some (c, v) → has (candidates box v) a ≡ true → is_supported_in k box i a ≡ true
supported_where_nothing_lost box k none i c v a at candidate =
    let all : flat_map (lost_at box k) (places k.scope) ≡ [] = nothing_distinct same_candidate (flat_map (lost_at box k) (places k.scope)) none in
    let here : lost_at box k (0 + i, c, v) ≡ [] = at_place (λ q. lost_at box k q ≡ []) 0 k.scope i c v (nothing_each (lost_at box k) (places k.scope) all) at in
    let kept : filter (λ b. not (is_supported_in k box (0 + i) b)) (candidates box v) ≡ [] = nothing_mapped (λ b. let x : Loss = record { process = c; value = b; point = v } in x) _ here in
    let z : 0 + i ≡ i = omega arith in
    subst (λ n. is_supported_in k box n a ≡ true) z
    (not-false _ (each_with_value (λ b. not (is_supported_in k box (0 + i) b) ≡ false) (candidates box v) a (none_pass (λ b. not (is_supported_in k box (0 + i) b)) (candidates box v) kept) candidate))

-- where a sweep loses nothing, each candidate is supported in each execution
-- at each place of its point
pub closed_supports : (p : Problem) (box : Box) → (sweep p box).lines ≡ [] → (e i c v a : ℕ) (k : Constraint) → slice_get p.constraints e ≡ Some k → slice_get k.scope i ≡ Some (c, v) → has (candidates box v) a ≡ true → is_supported_in k box i a ≡ true
closed_supports p box stable e i c v a k there at candidate =
    supported_where_nothing_lost box k (each_at (λ q. lost box q ≡ []) p.constraints e k (sweep_nothing box 0 p.constraints stable) there) i c v a at candidate

-- ---- closing again

still : (p : Problem) (box : Box) → (sweep p box).lines ≡ [] → (s : Step) → s.lines ≡ [] → Progress box s → s ≡ keeps box
still p box stable s none (inl same) = λ i. record { lines = same.0 i; left = same.1 i }
still p box stable s none (inr more) = absurd (subst HasLine none more.0)

sweeps_still : (p : Problem) (n : ℕ) (box : Box) → (sweep p box).lines ≡ [] → sweeps (suc n) p box ≡ keeps box
sweeps_still p n box stable = ap (λ ls. unless_none ls (sweep p box) (sweeps n p)) stable ∙ still p box stable (sweep p box) stable (sweep_progress p 0 p.constraints box)

-- closing a closed box writes nothing and leaves the box
pub closing_again : (p : Problem) (box : Box) → (sweep p box).lines ≡ [] → first_empty box ≡ None → closing p box ≡ keeps box
closing_again p box stable none = ap (λ o. closing_at o p box) none ∙ sweeps_still p (count box) box stable

-- a closed box with one candidate at each point is a solution
pub closed_single_solves : (p : Problem) (box b : Box) → IsWellFormed p → IsClosedBranch p box b → first_open b ≡ None → IsSolution p (values_in b)
closed_single_solves p box b well is none =
    single_solves p well b is.is_box.long (single_unless_open b (fully b (position_none (λ (set : List ℕ). length set == 0) b is.filled)) none) is.closed
