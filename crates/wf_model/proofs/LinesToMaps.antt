-- What the canonical search writes where it finds a map are the lines of a tree that leads to it.
use Rattle.std.proofs.Common.{◌≡◌, ℕ, zero, suc, ◌<◌, ◌≤◌, ◌==◌, true, nat_lt, List, [], ◌∷◌, ◌++◌, map, length, slice_index, Option, Some, None, All, refl, sym, ap, ◌∙◌, subst, arith, append-nil, eq-eqb}
use Rattle.std.specs.List.{AllByRecursion}
use Rattle.std.proofs.lemmas.Bool.{or_left, or_right}
use Rattle.std.proofs.lemmas.List.Quantifiers.{position-Some}
use Rattle.std.proofs.lemmas.List.Elements.{recursion_from_All}
use Rattle.wf_model.specs.Lists.{has}
use Rattle.wf_model.specs.Simplex.{is_ascending}
use Rattle.wf_model.specs.Problem.{Problem}
use Rattle.wf_model.specs.Box.{Box, LiesIn, candidates, decided, count, first_open}
use Rattle.wf_model.specs.Refutation.{Line, remove, branch, Tree, removed, branched, ended, Trees, no_trees, tree, lines, lines_each}
use Rattle.wf_model.specs.LeastTree.{IsLeastTree, LeastAmong, exactly}
use Rattle.wf_model.specs.Closing.{Trace, before, in_turn, branching_at, branching, searched, closing, search_within, canonical}
use Rattle.wf_model.proofs.MapsAreSolutions.{weaker}
use Rattle.wf_model.proofs.CanonicalSteps.{Leaves, leaves_both, closing_count, Few, branches_few, open_point}
use Rattle.wf_model.proofs.CanonicalRefutations.{TakesOut, before_losses, LeadsTo, Refutable, IsSound, NoMap, leads_closing, refutes_within}
use Rattle.wf_model.proofs.Ascending.{Ascends, ascends_from}
use Rattle.wf_model.proofs.Order.{only}
use Rattle.wf_model.proofs.ClosingKeeps.{Full, Ascending, ascending_after, candidates_ascend, IsInside, closing_inside}
use Rattle.wf_model.proofs.SolvedBoxes.{Single, single_unless_open, values_in, only_one}
use Rattle.wf_model.proofs.ClosedBoxes.{each_with_value}
use Rattle.wf_model.proofs.LeastTrees.{lies_by_tree}
use Rattle.wf_model.proofs.LeastSolutions.{no_map_is}

-- a map of a branch has the branch's value
pub decided_value : (m : List ℕ) (box : Box) (v a : ℕ) → v < length box → LiesIn m (decided box v a) → a ≡ slice_index m v
decided_value m [] v a within lies = absurd (let none : ⊥ = omega (arith, within) in none)
decided_value [] (s ∷ box) zero a within lies = absurd lies
decided_value (x ∷ m) (s ∷ box) zero a within lies = only a x lies.0
decided_value [] (s ∷ box) (suc v) a within lies = absurd lies
decided_value (x ∷ m) (s ∷ box) (suc v) a within lies = decided_value m box v a (omega (arith, within)) lies.1

single_exactly : (box : Box) → Single box → box ≡ exactly (values_in box)
single_exactly [] h = refl
single_exactly (s ∷ box) h = λ i. only_one s h.0 i ∷ single_exactly box h.1 i

module _ (p : Problem) (m : List ℕ) where
  -- among trees that lead to the map, one has the map's value
  pub among_has : (ts : Trees) (v : ℕ) (box : Box) (values : List ℕ) → LeastAmong p m v ts box values → has values (slice_index m v) ≡ true
  among_has no_trees v box values r = absurd r
  among_has (tree t ts) v box [] r = absurd r
  among_has (tree t no_trees) v box (a ∷ values) r = or_left (a == slice_index m v) _ (eq-eqb a (slice_index m v) r.0)
  among_has (tree t (tree u us)) v box (a ∷ values) r = or_right (a == slice_index m v) _ (among_has (tree u us) v box values r.3)

  -- some tree with these lines leads from the box to the map
  abbrev pub Leading : Box → List Line → Type 0
  Leading box ls = (t : Tree) × (lines t ≡ ls) × IsLeastTree p m t box

  leading_before : (ls : List Line) (box b : Box) → TakesOut p ls box b → (more : List Line) → Leading b more → Leading box (ls ++ more)
  leading_before = before_losses p Leading (λ box e c a v ls lost r. (removed e c a v r.0, ap (λ ms. remove e c a ∷ ms) r.1, (lost, r.2)))

  -- some trees with these lines lead to the map by its value among these
  abbrev LeadingAmong : ℕ → Box → List ℕ → List Line → Type 0
  LeadingAmong v box values ls = (ts : Trees) × (lines_each ts ≡ ls) × LeastAmong p m v ts box values

  -- a tree that refutes a smaller candidate's box goes before
  pub one_before : (v : ℕ) (box : Box) (a : ℕ) (values : List ℕ) (ls more : List Line) → AllByRecursion (λ b. a < b) values → Refutable p (decided box v a) ls → LeadingAmong v box values more → LeadingAmong v box (a ∷ values) (ls ++ more)
  one_before v box a values ls more low first (no_trees, e, r) = absurd r
  one_before v box a values ls more low first (tree u us, e, r) = (
    tree first.0 (tree u us),
    (λ i. first.1 i ++ e i),
    (each_with_value (λ b. a < b) values (slice_index m v) low (among_has (tree u us) v box values r), first.2, first.3, r),
  )

  -- a tree that leads to the map from its value's box ends them
  pub one_last : (v : ℕ) (box : Box) (a : ℕ) (values : List ℕ) (ls : List Line) → v < length box → Leading (decided box v a) ls → LeadingAmong v box (a ∷ values) ls
  one_last v box a values ls within (t, e, r) = (tree t no_trees, append-nil (lines t) ∙ e, (decided_value m box v a within (lies_by_tree p m t (decided box v a) r), r))

  -- ---- the search

  -- a search that leads to the map where it finds it
  abbrev IsLeading : ℕ → (Box → Trace) → Type 0
  IsLeading n f = (box : Box) → count box < n → Ascending box → (f box).map ≡ Some m → Leading box (f box).lines

  module _ (n : ℕ) (f : Box → Trace) (sound : IsSound p n f) (leading : IsLeading n f) where
    leads_in_turn : (box : Box) (v : ℕ) (values : List ℕ) → v < length box → Ascending box → Ascends values → Few n (map (decided box v) values) →
        (in_turn f (map (decided box v) values)).map ≡ Some m → LeadingAmong v box values (in_turn f (map (decided box v) values)).lines
    leads_in_turn box v [] within up rising few h = no_map_is h
    leads_in_turn box v (a ∷ values) within up rising few h = by_map (f (decided box v a)).map refl h (leads_in_turn box v values within up rising.1 few.1)
      where
        by_map : (o : Option (List ℕ)) → (f (decided box v a)).map ≡ o → (before (f (decided box v a)).lines o (in_turn f (map (decided box v) values))).map ≡ Some m →
            ((in_turn f (map (decided box v) values)).map ≡ Some m → LeadingAmong v box values (in_turn f (map (decided box v) values)).lines) →
            LeadingAmong v box (a ∷ values) (before (f (decided box v a)).lines o (in_turn f (map (decided box v) values))).lines
        by_map None is h rest = one_before v box a values _ _ rising.0 (sound (decided box v a) few.0 (subst (NoMap p) (sym is) tt)) (rest h)
        by_map (Some k) is h rest = one_last v box a values _ within (leading (decided box v a) few.0 (ascending_after box v (a ∷ []) (tt, tt) up) (is ∙ h))

    leads_branching : (box : Box) → count box ≤ n → Ascending box → Full box → (branching f box).map ≡ Some m → Leading box (branching f box).lines
    leads_branching box few up full h = by_open (first_open box) refl h
      where
        by_open : (o : Option ℕ) → first_open box ≡ o → (branching_at o f box).map ≡ Some m → Leading box (branching_at o f box).lines
        by_open None is h =
            let same : values_in box ≡ m = cc in
            (ended, refl, subst (λ x. box ≡ exactly x) same (single_exactly box (single_unless_open box full is)))
        by_open (Some v) is h =
            let there = position-Some (λ (set : List ℕ). nat_lt 1 (length set)) box v [] is in
            let ts = leads_in_turn box v (candidates box v) there.0 up (candidates_ascend box v up) (branches_few n box v (candidates box v) (open_point box v is) few) h in
            (branched v ts.0, ap (λ ls. branch v ∷ ls) ts.1, (is, ts.2))

  leads_searched : (f : Box → Trace) (box : Box) (ls : List Line) (left : Option Box) → LeadsTo p box ls left → Leaves (λ b. (f b).map ≡ Some m → Leading b (f b).lines) left → (searched ls left f).map ≡ Some m → Leading box (searched ls left f).lines
  leads_searched f box ls None leads next h = no_map_is h
  leads_searched f box ls (Some b) leads next h = leading_before ls box b leads (f b).lines (next h)

  leads_within : (n : ℕ) → IsLeading n (search_within n p)
  leads_within zero box few up h = absurd (let none : ⊥ = omega (arith, few) in none)
  leads_within (suc n) box few up h =
      leads_searched (branching (search_within n p)) box (closing p box).lines (closing p box).left (leads_closing p box)
      (leaves_both (IsInside box) (λ b. count b ≤ count box) (λ b. (branching (search_within n p) b).map ≡ Some m → Leading b (branching (search_within n p) b).lines)
      (λ b in' c k. leads_branching n (search_within n p) (refutes_within p n) (leads_within n) b (omega (arith, c, few)) (in'.ascending up) in'.full k)
      (closing p box).left (closing_inside p box) (closing_count p box)) h

-- where the canonical search finds a map, its lines are those of a tree that leads to it
pub canonical_leads : (p : Problem) (box : Box) (m : List ℕ) → All (λ set. is_ascending set ≡ true) box → (canonical p box).map ≡ Some m → (t : Tree) × (lines t ≡ (canonical p box).lines) × IsLeastTree p m t box
canonical_leads p box m up h =
    leads_within p m (suc (count box)) box (omega arith) (weaker (λ set. is_ascending set ≡ true) Ascends (λ set h. ascends_from set h) box (recursion_from_All _ box up)) h
