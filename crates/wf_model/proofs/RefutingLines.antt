-- The lines of a tree that refutes have no fault.
use Rattle.std.proofs.Common.{◌≡◌, ℕ, zero, suc, ◌+◌, ◌<◌, ◌==◌, true, false, List, [], ◌∷◌, ◌++◌, map, length, slice_get, Some, None, sym, refl, ap, ◌∙◌, subst, arith, append_assoc, append-nil, length-set, nat_lt}
use Rattle.std.specs.List.{AllByRecursion}
use Rattle.std.proofs.lemmas.Bool.{lt-ltb, ne_eqb, eq-eqb}
use Rattle.std.proofs.lemmas.List.Elements.{recursion_from_All}
use Rattle.std.proofs.Math.ListN.{length-replicate}
use Rattle.wf_model.specs.Problem.{Problem, Constraint, IsWellFormed}
use Rattle.wf_model.specs.Simplex.{is_ascending}
use Rattle.wf_model.specs.Box.{Box, root, candidates, without, branches_at}
use Rattle.wf_model.specs.Refutation.{Line, remove, empty, branch, found, Tree, emptied, removed, branched, ended, Trees, no_trees, tree, lines, lines_each, Refutes, RefutesEach}
use Rattle.wf_model.specs.Check.{left, place_of, verdict, first_fault}
use Rattle.wf_model.proofs.Headline.{each_append, each_of_map}
use Rattle.wf_model.proofs.TreesAreSound.{point_within}
use Rattle.wf_model.proofs.Ascending.{Ascends, ascends_from}
use Rattle.wf_model.proofs.FaultlessLines.{Fitting, fitting_branches, Follows}

pub each_at : {X : Type 0} (P : X → Type 0) (xs : List X) (i : ℕ) (x : X) → AllByRecursion P xs → slice_get xs i ≡ Some x → P x
each_at P [] i x h at = absurd (let none : ⊥ = cc in none)
each_at P (y ∷ xs) zero x h at = subst P (let e : y ≡ x = cc in e) h.0
each_at P (y ∷ xs) (suc i) x h at = each_at P xs i x h.1 at

-- where processes ascend, the first place of a process is its only one
place_found : (n c v i : ℕ) (scope : List (ℕ × ℕ)) → Ascends (map (λ at. at.0) scope) → slice_get scope i ≡ Some (c, v) → place_of n c scope ≡ Some (n + i, v)
place_found n c v i [] up at = absurd (let none : ⊥ = cc in none)
place_found n c v zero (q ∷ scope) up at =
    let same : q ≡ (c, v) = cc in
    let here : (q.0 == c) ≡ true = eq-eqb q.0 c (ap (λ (x : ℕ × ℕ). x.0) same) in
    let z : n ≡ n + 0 = omega arith in
    rw here (ap Some (λ j. (z j, (same j).1)))
place_found n c v (suc i) (q ∷ scope) up at =
    let later : q.0 < c = each_at (λ (x : ℕ × ℕ). q.0 < x.0) scope i (c, v) (each_of_map (λ y. q.0 < y) (λ (x : ℕ × ℕ). x.0) scope up.0) at in
    let other : (q.0 == c) ≡ false = ne_eqb q.0 c (λ e. absurd (let none : ⊥ = omega (arith, later, e) in none)) in
    let z : suc n + i ≡ n + suc i = omega arith in
    rw other (place_found (suc n) c v i scope up.1 at ∙ ap (λ k. Some (k, v)) z)

module _ (p : Problem) (well : IsWellFormed p) where
  ascending : AllByRecursion (λ (k : Constraint). is_ascending (map (λ at. at.0) k.scope) ≡ true) p.constraints
  ascending = recursion_from_All _ p.constraints well.ascending_processes

  -- a line that says what holds has no fault
  pub passes : (k : ℕ) (l : Line) (box : Box) (boxes after : List Box) → length box ≡ p.points → Follows p l box boxes after → verdict p k l box boxes ≡ left after
  passes k (empty v) box boxes after long (inside, nothing, is) =
      let within : nat_lt v p.points ≡ true = lt-ltb v p.points (subst (λ n. v < n) long inside) in
      let none : (length (candidates box v) == 0) ≡ true = eq-eqb _ _ (ap length nothing) in
      rw within (rw none (ap left (sym is)))
  passes k (remove e c a) box boxes after long (v, lost, is) =
      let place = place_found 0 c v lost.place lost.constraint.scope (ascends_from _ (each_at (λ (q : Constraint). is_ascending (map (λ at. at.0) q.scope) ≡ true) p.constraints e lost.constraint ascending lost.at)) lost.point in
      let z : 0 + lost.place ≡ lost.place = omega arith in
      rw lost.at (rw (place ∙ ap (λ n. Some (n, v)) z) (rw lost.unsupported (ap left (sym is))))
  passes k (branch v) box boxes after long (two, is) =
      let within : nat_lt v p.points ≡ true = lt-ltb v p.points (subst (λ n. v < n) long (point_within box v 1 two)) in
      let wide : nat_lt 1 (length (candidates box v)) ≡ true = lt-ltb 1 _ two in
      rw within (rw wide (ap left (sym is)))
  passes k found box boxes after long h = absurd h

  -- the lines have no fault, from whichever line on
  abbrev NoFault : List Line → List Box → Type 0
  NoFault ls boxes = (k : ℕ) → first_fault p k ls boxes ≡ None

  one_more : (l : Line) (ls : List Line) (box : Box) (boxes after : List Box) → length box ≡ p.points → Follows p l box boxes after → NoFault ls after → NoFault (l ∷ ls) (box ∷ boxes)
  one_more l ls box boxes after long follows next k = rw (passes k l box boxes after long follows) (next (suc k))

  mutual
    accepts : (t : Tree) (ls : List Line) (box : Box) (boxes : List Box) → Refutes p t box → length box ≡ p.points → Fitting p boxes → NoFault ls boxes → NoFault (lines t ++ ls) (box ∷ boxes)
    accepts (emptied v) ls box boxes r long fits next = one_more (empty v) ls box boxes boxes long (r.0, r.1, refl) next
    accepts (removed e c a v t) ls box boxes r long fits next =
        one_more (remove e c a) (lines t ++ ls) box boxes (without box v a ∷ boxes) long (v, r.0, refl) (accepts t ls (without box v a) boxes r.1 (length-set box v _ ∙ long) fits next)
    accepts (branched v ts) ls box boxes r long fits next =
        one_more (branch v) (lines_each ts ++ ls) box boxes (branches_at box v ++ boxes) long (r.0, refl)
        (accepts_each ts ls (branches_at box v) boxes r.1 (subst (Fitting p) (append-nil (branches_at box v)) (fitting_branches p box v (candidates box v) [] long tt)) fits next)
    accepts ended ls box boxes r long fits next = absurd r

    accepts_each : (ts : Trees) (ls : List Line) (these boxes : List Box) → RefutesEach p ts these → Fitting p these → Fitting p boxes → NoFault ls boxes → NoFault (lines_each ts ++ ls) (these ++ boxes)
    accepts_each no_trees ls [] boxes r these fits next k = next k
    accepts_each no_trees ls (box ∷ more) boxes r these fits next k = absurd r
    accepts_each (tree t ts) ls [] boxes r these fits next k = absurd r
    accepts_each (tree t ts) ls (box ∷ more) boxes r these fits next k =
        subst (λ all. first_fault p k all (box ∷ (more ++ boxes)) ≡ None) (sym (append_assoc (lines t) (lines_each ts) ls))
        (accepts t (lines_each ts ++ ls) box (more ++ boxes) r.0 these.0 (each_append (λ b. length b ≡ p.points) more boxes these.1 fits) (accepts_each ts ls more boxes r.1 these.1 fits next) k)

  -- the lines of a tree that refutes a box have no fault as lines about it
  pub box_accepts : (k : ℕ) (t : Tree) (box : Box) → length box ≡ p.points → Refutes p t box → first_fault p k (lines t) (box ∷ []) ≡ None
  box_accepts k t box long r =
      subst (λ all. first_fault p k all (box ∷ []) ≡ None) (append-nil (lines t))
      (accepts t [] box [] r long tt (λ k. refl) k)

  pub root_accepts : (k : ℕ) (t : Tree) → Refutes p t (root p) → first_fault p k (lines t) (root p ∷ []) ≡ None
  root_accepts k t r = box_accepts k t (root p) (length-replicate p.points p.values) r
