-- Lines that a checker of least reports finds no fault in are those of a tree
-- that leads to the map.
use Rattle.std.proofs.Common.{◌≡◌, ℕ, suc, ◌<◌, ◌==◌, ◌⊎◌, true, false, List, [], ◌∷◌, ◌++◌, map, length, Option, Some, None, refl, sym, ap, ◌∙◌, subst, inl, inr, append_assoc, append-nil, eqb-true, eq-eqb, length-set}
use Rattle.std.specs.List.{AllByRecursion}
use Rattle.std.specs.Cmp.Lexicographic.{pointwise}
use Rattle.std.proofs.lemmas.Bool.{cases_Bool, and_parts, and_from, false≢true}
use Rattle.std.proofs.lemmas.List.Elements.{recursion_from_All}
use Rattle.wf_model.specs.Simplex.{is_ascending}
use Rattle.wf_model.specs.Problem.{Problem, IsWellFormed}
use Rattle.wf_model.specs.Box.{Box, candidates, without, decided, branches_at, first_open}
use Rattle.wf_model.specs.Refutation.{Line, remove, empty, branch, found, Tree, emptied, removed, branched, ended, Trees, no_trees, tree, lines, lines_each, Refutes, RefutesEach}
use Rattle.wf_model.specs.LeastTree.{BranchesFirst, BranchesFirstEach, exactly, IsLeastTree, LeastAmong}
use Rattle.wf_model.specs.Check.{Refusal, Verdict, fault, left, verdict, is_point, first_only, least_verdict, after_verdict, is_exactly, first_trailing, found_at, first_least_fault}
use Rattle.wf_model.specs.Laws.{IsBoxOf}
use Rattle.wf_model.proofs.MapsAreSolutions.{weaker}
use Rattle.wf_model.proofs.Headline.{each_append}
use Rattle.wf_model.proofs.TreesAreSound.{point_within}
use Rattle.wf_model.proofs.CanonicalSteps.{open_point}
use Rattle.wf_model.proofs.Ascending.{Ascends, ascends_from, ascends_filter}
use Rattle.wf_model.proofs.ClosingKeeps.{Ascending, candidates_ascend, ascending_after}
use Rattle.wf_model.proofs.ClosedBoxes.{each_with_value}
use Rattle.wf_model.proofs.FaultlessLines.{Fitting, Follows, passed, goes_on, fitting_branches}
use Rattle.wf_model.proofs.RefutingLines.{passes}
use Rattle.wf_model.proofs.LeastSolutions.{each_decided}
use Rattle.wf_model.proofs.LeastTrees.{lies_by_tree}
use Rattle.wf_model.proofs.LinesToMaps.{decided_value, among_has}

-- ---- what the checker's tests say

single_is : (a : ℕ) (set : List ℕ) → pointwise (λ x y. x == y) (a ∷ []) set ≡ true → set ≡ a ∷ []
single_is a [] h = absurd (false≢true h)
single_is a (x ∷ []) h = let parts = and_parts (a == x) true h in λ i. sym (eqb-true a x parts.0) i ∷ []
single_is a (x ∷ y ∷ set) h = let parts = and_parts (a == x) false h in absurd (false≢true parts.1)

exactly_is : (m : List ℕ) (box : Box) → is_exactly m box ≡ true → box ≡ exactly m
exactly_is [] [] h = refl
exactly_is [] (s ∷ box) h = absurd (false≢true h)
exactly_is (a ∷ m) [] h = absurd (false≢true h)
exactly_is (a ∷ m) (s ∷ box) h =
    let parts = and_parts (pointwise (λ x y. x == y) (a ∷ []) s) (is_exactly m box) h in
    λ i. single_is a s parts.0 i ∷ exactly_is m box parts.1 i

is_itself : (m : List ℕ) → is_exactly m (exactly m) ≡ true
is_itself [] = refl
is_itself (a ∷ m) = and_from _ _ (and_from _ _ (eq-eqb a a refl) refl) (is_itself m)

point_is : (v : ℕ) (o : Option ℕ) → is_point v o ≡ true → o ≡ Some v
point_is v None h = absurd (false≢true h)
point_is v (Some w) h = ap Some (sym (eqb-true v w h))

some_fault : {X : Type 0} {f : Refusal} → Some f ≡ None → X
some_fault h = absurd (let none : ⊥ = cc in none)

-- a branch is at the first open point
abbrev IsFirst : Line → Box → Type 0
IsFirst (remove e c a) box = Unit {0}
IsFirst (empty v) box = Unit {0}
IsFirst (branch v) box = first_open box ≡ Some v
IsFirst found box = Unit {0}

no_left : {X : Type 0} {f : Refusal} {after : List Box} → fault f ≡ left after → X
no_left h = absurd (let none : ⊥ = cc in none)

never_left : {X : Type 0} (k : ℕ) (v : Verdict) (after : List Box) → first_only k false v ≡ left after → X
never_left k (fault f) after h = no_left h
never_left k (left boxes) after h = no_left h

module _ (p : Problem) where
  least_passed : (k : ℕ) (l : Line) (box : Box) (boxes after : List Box) → least_verdict p k l box boxes ≡ left after → (verdict p k l box boxes ≡ left after) × IsFirst l box
  least_passed k (remove e c a) box boxes after h = (h, tt)
  least_passed k (empty v) box boxes after h = (h, tt)
  least_passed k found box boxes after h = no_left h
  least_passed k (branch v) box boxes after h =
      elim (cases_Bool (is_point v (first_open box))) [
        | inl first ↦ (rw first at h, point_is v (first_open box) first)
        | inr other ↦ never_left k (verdict p k (branch v) box boxes) after (rw other at h)
      ]

  least_passes : (k : ℕ) (l : Line) (box : Box) (boxes after : List Box) → verdict p k l box boxes ≡ left after → IsFirst l box → least_verdict p k l box boxes ≡ left after
  least_passes k (remove e c a) box boxes after h first = h
  least_passes k (empty v) box boxes after h first = h
  least_passes k found box boxes after h first = h
  least_passes k (branch v) box boxes after h first =
      let here : is_point v (first_open box) ≡ true = subst (λ o. is_point v o ≡ true) (sym first) (eq-eqb v v refl) in
      rw here h

-- ---- lines without a fault

module _ (p : Problem) (m : List ℕ) where
  -- boxes of the problem
  abbrev Fit : List Box → Type 0
  Fit boxes = AllByRecursion (λ b. (length b ≡ p.points) × Ascending b) boxes

  -- all trees but the last refute the first boxes, and the last leads to the map from the next box
  abbrev LedBy : Trees → List Box → Type 0
  LedBy no_trees boxes = ⊥
  LedBy (tree t ts) [] = ⊥
  LedBy (tree t no_trees) (box ∷ boxes) = IsLeastTree p m t box
  LedBy (tree t (tree u us)) (box ∷ boxes) = Refutes p t box × BranchesFirst t box × LedBy (tree u us) boxes

  abbrev Led : List Box → List Line → Type 0
  Led boxes ls = (ts : Trees) × (lines_each ts ≡ ls) × LedBy ts boxes

  -- the trees of a point's branches and of other boxes: the map is among the
  -- branches, or they are all refuted
  abbrev Split : ℕ → Box → List ℕ → List Box → Trees → Type 0
  Split v box values boxes ts =
      LeastAmong p m v ts box values
      ⊎ ((us vs : Trees) × (lines_each us ++ lines_each vs ≡ lines_each ts) × RefutesEach p us (map (decided box v) values) × BranchesFirstEach us (map (decided box v) values) × LedBy vs boxes)

  split_led : (v : ℕ) (box : Box) (values : List ℕ) (boxes : List Box) (ts : Trees) → v < length box → Ascends values → LedBy ts (map (decided box v) values ++ boxes) → Split v box values boxes ts
  split_led v box [] boxes ts within up r = inr (no_trees, ts, refl, tt, tt, r)
  split_led v box (a ∷ values) boxes no_trees within up r = absurd r
  split_led v box (a ∷ values) boxes (tree t no_trees) within up r = inl (decided_value m box v a within (lies_by_tree p m t (decided box v a) r), r)
  split_led v box (a ∷ values) boxes (tree t (tree u us)) within up r = by_split (split_led v box values boxes (tree u us) within up.1 r.2)
    where
      by_split : Split v box values boxes (tree u us) → Split v box (a ∷ values) boxes (tree t (tree u us))
      by_split (inl among) = inl (each_with_value (λ b. a < b) values _ up.0 (among_has p m (tree u us) v box values among), r.0, r.1, among)
      by_split (inr (ws, vs, e, refute, first, led)) =
          inr (tree t ws, vs, append_assoc (lines t) (lines_each ws) (lines_each vs) ∙ ap (λ ls. lines t ++ ls) e, (r.0, refute), (r.1, first), led)

  fit_after : (l : Line) (box : Box) (boxes after : List Box) → Fit (box ∷ boxes) → Follows p l box boxes after → Fit after
  fit_after (remove e c a) box boxes after fits (v, lost, is) =
      subst Fit (sym is) ((length-set box v _ ∙ fits.0.0, ascending_after box v _ (ascends_filter _ (candidates box v) (candidates_ascend box v fits.0.1)) fits.0.1), fits.1)
  fit_after (empty v) box boxes after fits (within, none, is) = subst Fit (sym is) fits.1
  fit_after (branch v) box boxes after fits (wide, is) =
      subst Fit (sym is) (each_append (λ b. (length b ≡ p.points) × Ascending b) (branches_at box v) boxes (each_decided p box v (candidates box v) fits.0.0 fits.0.1) fits.1)
  fit_after found box boxes after fits h = absurd h

  one_line : (l : Line) (ls : List Line) (box : Box) (boxes after : List Box) → Ascending box → IsFirst l box → Follows p l box boxes after → Led after ls → Led (box ∷ boxes) (l ∷ ls)
  one_line found ls box boxes after up first h rest = absurd h
  one_line (empty v) ls box boxes after up first (within, none, is) rest = one_tree (subst (λ bs. Led bs ls) is rest)
    where
      one_tree : Led boxes ls → Led (box ∷ boxes) (empty v ∷ ls)
      one_tree (no_trees, e, r) = absurd r
      one_tree (tree u us, e, r) = (tree (emptied v) (tree u us), ap (λ ms. empty v ∷ ms) e, ((within, none), tt, r))
  one_line (remove e c a) ls box boxes after up first (v, lost, is) rest = one_tree (subst (λ bs. Led bs ls) is rest)
    where
      one_tree : Led (without box v a ∷ boxes) ls → Led (box ∷ boxes) (remove e c a ∷ ls)
      one_tree (no_trees, e', r) = absurd r
      one_tree (tree t no_trees, e', r) = (tree (removed e c a v t) no_trees, ap (λ ms. remove e c a ∷ ms) e', (lost, r))
      one_tree (tree t (tree u us), e', r) = (tree (removed e c a v t) (tree u us), ap (λ ms. remove e c a ∷ ms) e', ((lost, r.0), r.1, r.2))
  one_line (branch v) ls box boxes after up first (wide, is) rest = one_tree (subst (λ bs. Led bs ls) is rest)
    where
      by_split : (ts : Trees) → lines_each ts ≡ ls → Split v box (candidates box v) boxes ts → Led (box ∷ boxes) (branch v ∷ ls)
      by_split ts e (inl among) = (tree (branched v ts) no_trees, ap (λ ms. branch v ∷ ms) (append-nil (lines_each ts) ∙ e), (first, among))
      by_split ts e (inr (us, no_trees, e', refute, firsts, led)) = absurd led
      by_split ts e (inr (us, tree w ws, e', refute, firsts, led)) =
          (tree (branched v us) (tree w ws), ap (λ ms. branch v ∷ ms) (e' ∙ e), ((wide, refute), (first, firsts), led))

      one_tree : Led (branches_at box v ++ boxes) ls → Led (box ∷ boxes) (branch v ∷ ls)
      one_tree (ts, e, r) = by_split ts e (split_led v box (candidates box v) boxes ts (point_within box v 1 wide) (candidates_ascend box v up) r)

  at_found : (k : ℕ) (ls : List Line) (box : Box) (boxes : List Box) → found_at k (is_exactly m box) ls ≡ None → Led (box ∷ boxes) (found ∷ ls)
  at_found k ls box boxes h =
      elim (cases_Bool (is_exactly m box)) [
        | inl here ↦ (tree ended no_trees, ap (λ ms. found ∷ ms) (nothing ls (rw here at h)), exactly_is m box here)
        | inr other ↦ some_fault (rw other at h)
      ]
    where
      nothing : (ls : List Line) → first_trailing (suc k) ls ≡ None → [] ≡ ls
      nothing [] h = refl
      nothing (l ∷ ls) h = some_fault h

  after_line : (k : ℕ) (l : Line) (ls : List Line) (box : Box) (boxes : List Box) → Fit (box ∷ boxes) → ((after : List Box) → Fit after → first_least_fault p m (suc k) ls after ≡ None → Led after ls) →
      after_verdict (least_verdict p k l box boxes) (first_least_fault p m (suc k) ls) ≡ None → Led (box ∷ boxes) (l ∷ ls)
  after_line k l ls box boxes fits next h =
      let on = goes_on p (least_verdict p k l box boxes) (first_least_fault p m (suc k) ls) h in
      let good = least_passed p k l box boxes on.0 on.1 in
      let follows = passed p k l box boxes on.0 fits.0.0 good.0 in
      one_line l ls box boxes on.0 fits.0.1 good.1 follows (next on.0 (fit_after l box boxes on.0 fits follows) on.2)

  -- lines without a fault are those of trees of which the last leads to the map
  accepted_led : (k : ℕ) (ls : List Line) (boxes : List Box) → Fit boxes → first_least_fault p m k ls boxes ≡ None → Led boxes ls
  accepted_led k [] boxes fits h = some_fault h
  accepted_led k (l ∷ ls) [] fits h = some_fault h
  accepted_led k (remove e c a ∷ ls) (box ∷ boxes) fits h = after_line k (remove e c a) ls box boxes fits (accepted_led (suc k) ls) h
  accepted_led k (empty v ∷ ls) (box ∷ boxes) fits h = after_line k (empty v) ls box boxes fits (accepted_led (suc k) ls) h
  accepted_led k (branch v ∷ ls) (box ∷ boxes) fits h = after_line k (branch v) ls box boxes fits (accepted_led (suc k) ls) h
  accepted_led k (found ∷ ls) (box ∷ boxes) fits h = at_found k ls box boxes h

-- lines that the checker finds no fault in are those of a tree that leads to the map
pub accepted_leads : (p : Problem) (box : Box) (m : List ℕ) (k : ℕ) (ls : List Line) → IsBoxOf p box → first_least_fault p m k ls (box ∷ []) ≡ None → (t : Tree) × (lines t ≡ ls) × IsLeastTree p m t box
accepted_leads p box m k ls is h =
    one_tree (accepted_led p m k ls (box ∷ []) ((is.long, weaker (λ set. is_ascending set ≡ true) Ascends (λ set h. ascends_from set h) box (recursion_from_All _ box is.ascending)), tt) h)
  where
    one_tree : Led p m (box ∷ []) ls → (t : Tree) × (lines t ≡ ls) × IsLeastTree p m t box
    one_tree (no_trees, e, r) = absurd r
    one_tree (tree t no_trees, e, r) = (t, sym (append-nil (lines t)) ∙ e, r)
    one_tree (tree t (tree u no_trees), e, r) = absurd r.2
    one_tree (tree t (tree u (tree w ws)), e, r) = absurd r.2

-- ---- lines of a tree

module _ (p : Problem) (well : IsWellFormed p) (m : List ℕ) where
  -- the lines have no fault, from whichever line on
  abbrev NoFault : List Line → List Box → Type 0
  NoFault ls boxes = (k : ℕ) → first_least_fault p m k ls boxes ≡ None

  one_more : (l : Line) (ls : List Line) (box : Box) (boxes after : List Box) → length box ≡ p.points → Follows p l box boxes after → IsFirst l box → NoFault ls after → NoFault (l ∷ ls) (box ∷ boxes)
  one_more (remove e c a) ls box boxes after long follows first next k = rw (least_passes p k (remove e c a) box boxes after (passes p well k (remove e c a) box boxes after long follows) first) (next (suc k))
  one_more (empty v) ls box boxes after long follows first next k = rw (least_passes p k (empty v) box boxes after (passes p well k (empty v) box boxes after long follows) first) (next (suc k))
  one_more (branch v) ls box boxes after long follows first next k = rw (least_passes p k (branch v) box boxes after (passes p well k (branch v) box boxes after long follows) first) (next (suc k))
  one_more found ls box boxes after long follows first next k = absurd follows

  mutual
    refuting_accepted : (t : Tree) (ls : List Line) (box : Box) (boxes : List Box) → Refutes p t box → BranchesFirst t box → length box ≡ p.points → Fitting p boxes → NoFault ls boxes → NoFault (lines t ++ ls) (box ∷ boxes)
    refuting_accepted (emptied v) ls box boxes r first long fits next = one_more (empty v) ls box boxes boxes long (r.0, r.1, refl) tt next
    refuting_accepted (removed e c a v t) ls box boxes r first long fits next =
        one_more (remove e c a) (lines t ++ ls) box boxes (without box v a ∷ boxes) long (v, r.0, refl) tt (refuting_accepted t ls (without box v a) boxes r.1 first (length-set box v _ ∙ long) fits next)
    refuting_accepted (branched v ts) ls box boxes r first long fits next =
        one_more (branch v) (lines_each ts ++ ls) box boxes (branches_at box v ++ boxes) long (r.0, refl) first.0
        (each_accepted ts ls (branches_at box v) boxes r.1 first.1 (subst (Fitting p) (append-nil (branches_at box v)) (fitting_branches p box v (candidates box v) [] long tt)) fits next)
    refuting_accepted ended ls box boxes r first long fits next = absurd r

    each_accepted : (ts : Trees) (ls : List Line) (these boxes : List Box) → RefutesEach p ts these → BranchesFirstEach ts these → Fitting p these → Fitting p boxes → NoFault ls boxes → NoFault (lines_each ts ++ ls) (these ++ boxes)
    each_accepted no_trees ls [] boxes r first these fits next = next
    each_accepted no_trees ls (box ∷ more) boxes r first these fits next = absurd r
    each_accepted (tree t ts) ls [] boxes r first these fits next = absurd r
    each_accepted (tree t ts) ls (box ∷ more) boxes r first these fits next =
        subst (λ all. NoFault all (box ∷ (more ++ boxes))) (sym (append_assoc (lines t) (lines_each ts) ls))
        (refuting_accepted t (lines_each ts ++ ls) box (more ++ boxes) r.0 first.0 these.0 (each_append (λ b. length b ≡ p.points) more boxes these.1 fits) (each_accepted ts ls more boxes r.1 first.1 these.1 fits next))

  mutual
    leading_accepted : (t : Tree) (box : Box) (boxes : List Box) → IsLeastTree p m t box → length box ≡ p.points → Fitting p boxes → NoFault (lines t) (box ∷ boxes)
    leading_accepted (emptied v) box boxes r long fits = absurd r
    leading_accepted (removed e c a v t) box boxes r long fits =
        one_more (remove e c a) (lines t) box boxes (without box v a ∷ boxes) long (v, r.0, refl) tt (leading_accepted t (without box v a) boxes r.1 (length-set box v _ ∙ long) fits)
    leading_accepted (branched v ts) box boxes r long fits =
        one_more (branch v) (lines_each ts) box boxes (branches_at box v ++ boxes) long (open_point box v r.0, refl) r.0 (among_accepted ts v box (candidates box v) boxes r.1 long fits)
    leading_accepted ended box boxes r long fits =
        let here : is_exactly m box ≡ true = subst (λ b. is_exactly m b ≡ true) (sym r) (is_itself m) in
        λ k. rw here refl

    among_accepted : (ts : Trees) (v : ℕ) (box : Box) (values : List ℕ) (boxes : List Box) → LeastAmong p m v ts box values → length box ≡ p.points → Fitting p boxes → NoFault (lines_each ts) (map (decided box v) values ++ boxes)
    among_accepted no_trees v box values boxes r long fits = absurd r
    among_accepted (tree t ts) v box [] boxes r long fits = absurd r
    among_accepted (tree t no_trees) v box (a ∷ values) boxes r long fits =
        subst (λ ls. NoFault ls (decided box v a ∷ (map (decided box v) values ++ boxes))) (sym (append-nil (lines t)))
        (leading_accepted t (decided box v a) (map (decided box v) values ++ boxes) r.1 (length-set box v (a ∷ []) ∙ long) (fitting_branches p box v values boxes long fits))
    among_accepted (tree t (tree u us)) v box (a ∷ values) boxes r long fits =
        refuting_accepted t (lines_each (tree u us)) (decided box v a) (map (decided box v) values ++ boxes) r.1 r.2 (length-set box v (a ∷ []) ∙ long) (fitting_branches p box v values boxes long fits)
        (among_accepted (tree u us) v box values boxes r.3 long fits)

-- the lines of a tree that leads to the map have no fault
pub leading_lines_accepted : (p : Problem) (box : Box) (m : List ℕ) (k : ℕ) (t : Tree) → IsWellFormed p → length box ≡ p.points → IsLeastTree p m t box → first_least_fault p m k (lines t) (box ∷ []) ≡ None
leading_lines_accepted p box m k t well long r = leading_accepted p well m t box [] r long tt k
