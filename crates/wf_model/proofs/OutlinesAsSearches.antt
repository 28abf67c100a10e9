-- Outlines as searches: with the canonical searches of its boxes in their
-- places, an outline is that of the root.
use Rattle.std.proofs.Common.{◌≡◌, ℕ, zero, suc, ◌&&◌, Bool, true, false, List, [], ◌∷◌, ◌++◌, map, flat_map, length, nat_lt, Option, Some, None, sym, refl, ap, ◌∙◌, subst, append-nil}
use Rattle.std.specs.List.{AllByRecursion, AllZip, list_any}
use Rattle.std.proofs.lemmas.List.{append_assoc}
use Rattle.wf_model.specs.Problem.{Problem}
use Rattle.wf_model.specs.Box.{Box, root, branches_at, first_open}
use Rattle.wf_model.specs.Refutation.{Line, branch}
use Rattle.wf_model.specs.Closing.{Step, Trace, closing, before, in_turn, branching_at, branching, searched, canonical}
use Rattle.wf_model.specs.Split.{is_open, split}
use Rattle.wf_model.specs.Outline.{Item, written, left_out, box_left, closed_to, opened_at, opened, boxes_left_out, opened_if, opened_levels, outline, filled, filled_up_to}
use Rattle.wf_model.specs.Laws.{HasCanonicalLines, HasCanonicalMap, LeadToMap}
use Rattle.wf_model.proofs.CanonicalSteps.{Leaves, canonical_step}
use Rattle.wf_model.proofs.FilledOutlines.{IsStill, leaves_still, still_level, still_root, boxes_outline}

-- ---- traces one after another

before_nothing : (t : Trace) → before t.lines t.map (record { lines = []; map = None }) ≡ t
before_nothing t = by_map t.map
  where
    by_map : (o : Option (List ℕ)) → before t.lines o (record { lines = []; map = None }) ≡ record { lines = t.lines; map = o }
    by_map None = λ i. record { lines = append-nil t.lines i; map = None }
    by_map (Some m) = refl

before_before : (ls : List Line) (o : Option (List ℕ)) (s t : Trace) → before (before ls o s).lines (before ls o s).map t ≡ before ls o (before s.lines s.map t)
before_before ls (Some m) s t = refl
before_before ls None s t = by_map s.map
  where
    by_map : (o : Option (List ℕ)) → before (ls ++ s.lines) o t ≡ before ls None (before s.lines o t)
    by_map None = λ i. record { lines = append_assoc ls s.lines t.lines i; map = t.map }
    by_map (Some m) = refl

-- ---- the search of an outline

-- an outline with searches in the places of its boxes
abbrev pub traced : (Box → Trace) → List Item → Trace
traced search [] = record { lines = []; map = None }
traced search (written l ∷ items) = before (l ∷ []) None (traced search items)
traced search (left_out box ∷ items) = before (search box).lines (search box).map (traced search items)

module _ (search : Box → Trace) where
  traced_append : (xs ys : List Item) → traced search (xs ++ ys) ≡ before (traced search xs).lines (traced search xs).map (traced search ys)
  traced_append [] ys = refl
  traced_append (written l ∷ xs) ys = ap (before (l ∷ []) None) (traced_append xs ys) ∙ sym (before_before (l ∷ []) None (traced search xs) (traced search ys))
  traced_append (left_out box ∷ xs) ys =
      ap (before (search box).lines (search box).map) (traced_append xs ys)
      ∙ sym (before_before (search box).lines (search box).map (traced search xs) (traced search ys))

  traced_lines : (ls : List Line) (items : List Item) → traced search (map written ls ++ items) ≡ before ls None (traced search items)
  traced_lines [] items = refl
  traced_lines (l ∷ ls) items = ap (before (l ∷ []) None) (traced_lines ls items)

module _ (p : Problem) where
  branching_of_still : (box : Box) → IsStill p box → canonical p box ≡ branching (canonical p) box
  branching_of_still box still = canonical_step p box ∙ ap (λ (s : Step). searched s.lines s.left (branching (canonical p))) still

  traced_closed : (box : Box) → traced (canonical p) (closed_to (closing p box)) ≡ canonical p box
  traced_closed box =
      traced_lines (canonical p) (closing p box).lines (box_left (closing p box).left)
      ∙ by_left (closing p box).left (leaves_still p box)
      ∙ sym (canonical_step p box)
    where
      by_left : (o : Option Box) → Leaves (IsStill p) o → before (closing p box).lines None (traced (canonical p) (box_left o)) ≡ searched (closing p box).lines o (branching (canonical p))
      by_left None still = before_nothing (record { lines = (closing p box).lines; map = None })
      by_left (Some b) still = ap (before (closing p box).lines None) (before_nothing (canonical p b) ∙ branching_of_still b still)

  traced_each : (boxes : List Box) → traced (canonical p) (flat_map (λ b. closed_to (closing p b)) boxes) ≡ in_turn (canonical p) boxes
  traced_each [] = refl
  traced_each (box ∷ boxes) =
      traced_append (canonical p) (closed_to (closing p box)) (flat_map (λ b. closed_to (closing p b)) boxes)
      ∙ (λ i. before (traced_closed box i).lines (traced_closed box i).map (traced_each boxes i))

  traced_opened : (box : Box) → IsStill p box → traced (canonical p) (opened p (left_out box)) ≡ canonical p box
  traced_opened box still = by_open (first_open box) refl
    where
      by_open : (o : Option ℕ) → first_open box ≡ o → traced (canonical p) (opened_at o p box) ≡ canonical p box
      by_open None is = before_nothing (canonical p box)
      by_open (Some v) is =
          ap (before (branch v ∷ []) None) (traced_each (branches_at box v))
          ∙ sym (branching_of_still box still ∙ ap (λ o. branching_at o (canonical p) box) is)

  traced_level : (items : List Item) → AllByRecursion (IsStill p) (boxes_left_out items) → traced (canonical p) (flat_map (opened p) items) ≡ traced (canonical p) items
  traced_level [] still = refl
  traced_level (written l ∷ items) still = ap (before (l ∷ []) None) (traced_level items still)
  traced_level (left_out box ∷ items) still =
      traced_append (canonical p) (opened p (left_out box)) (flat_map (opened p) items)
      ∙ (λ i. before (traced_opened box still.0 i).lines (traced_opened box still.0 i).map (traced_level items still.1 i))

  traced_levels : (n : ℕ) (items : List Item) → AllByRecursion (IsStill p) (boxes_left_out items) → traced (canonical p) (opened_levels n p items) ≡ traced (canonical p) items
  traced_levels zero items still = refl
  traced_levels (suc n) items still =
      by_test (nat_lt (length (boxes_left_out items)) 64 && list_any is_open (boxes_left_out items)) (traced_levels n (flat_map (opened p) items) (still_level p items still))
    where
      by_test : (b : Bool) → traced (canonical p) (opened_levels n p (flat_map (opened p) items)) ≡ traced (canonical p) (flat_map (opened p) items)
          → traced (canonical p) (opened_if b p items (opened_levels n p)) ≡ traced (canonical p) items
      by_test false next = refl
      by_test true next = next ∙ traced_level items still

  -- the outline's search is that of the root
  pub traced_outline : traced (canonical p) (outline p) ≡ canonical p (root p)
  traced_outline =
      traced_levels 8 (closed_to (closing p (root p))) (still_root p (closing p (root p)).lines (closing p (root p)).left (leaves_still p (root p)))
      ∙ traced_closed (root p)

  -- ---- lines in the place of boxes

  none_traced : (items : List Item) (lists : List (List Line)) → AllZip (HasCanonicalLines p) (boxes_left_out items) lists → traced (canonical p) items ≡ record { lines = filled items lists; map = None }
  none_traced [] lists h = refl
  none_traced (written l ∷ items) lists h = ap (before (l ∷ []) None) (none_traced items lists h)
  none_traced (left_out box ∷ items) [] h = absurd h
  none_traced (left_out box ∷ items) (ls ∷ lists) h = λ i. before (h.0 i).lines (h.0 i).map (none_traced items lists h.1 i)

  map_traced : (m : List ℕ) (items : List Item) (lists : List (List Line)) → LeadToMap p m (boxes_left_out items) lists → traced (canonical p) items ≡ record { lines = filled_up_to items lists; map = Some m }
  map_traced m [] lists h = absurd h
  map_traced m (written l ∷ items) lists h = ap (before (l ∷ []) None) (map_traced m items lists h)
  map_traced m (left_out box ∷ items) [] h = absurd h
  map_traced m (left_out box ∷ items) (ls ∷ []) h = ap (λ (t : Trace). before t.lines t.map (traced (canonical p) items)) h
  map_traced m (left_out box ∷ items) (ls ∷ next ∷ lists) h = λ i. before (h.0 i).lines (h.0 i).map (map_traced m items (next ∷ lists) h.1 i)

  pub filled_canonical : (lists : List (List Line)) → AllZip (HasCanonicalLines p) (split p) lists → HasCanonicalLines p (root p) (filled (outline p) lists)
  filled_canonical lists h = sym traced_outline ∙ none_traced (outline p) lists (subst (λ bs. AllZip (HasCanonicalLines p) bs lists) (sym (boxes_outline p)) h)

  -- lists that lead to a map in the first branches make lines that lead to it from the root
  pub filled_leads : (m : List ℕ) (lists : List (List Line)) → LeadToMap p m (split p) lists → HasCanonicalMap p m (root p) (filled_up_to (outline p) lists)
  filled_leads m lists h = sym traced_outline ∙ map_traced m (outline p) lists (subst (λ bs. LeadToMap p m bs lists) (sym (boxes_outline p)) h)
