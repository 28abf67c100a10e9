-- Outlines: their boxes are the branches, and filled with refutations of
-- these they refute the root.
use Rattle.std.proofs.Common.{◌≡◌, ℕ, zero, suc, ◌*◌, ◌≤◌, ◌&&◌, ◌==◌, Bool, true, false, not, List, [], ◌∷◌, ◌++◌, map, flat_map, filter_map, length, replicate, nat_lt, Option, Some, None, sym, refl, ap, ◌∙◌, subst, arith, le_trans, length-append, ltb-true}
use Rattle.std.specs.List.{AllByRecursion, AllZip, cons_option, list_any}
use Rattle.std.proofs.lemmas.List.{append_assoc, append-nil}
use Rattle.std.proofs.lemmas.Bool.{and_parts}
use Rattle.wf_model.specs.Problem.{Problem}
use Rattle.wf_model.specs.Box.{Box, root, candidates, without, decided, branches_at, first_open}
use Rattle.wf_model.specs.Refutation.{Line, remove, branch, removed, branched, Trees, no_trees, tree, lines_each, RefutesEach}
use Rattle.wf_model.specs.Closing.{keeps, sweep, closing}
use Rattle.wf_model.specs.Split.{closed, is_open, children_at, children, level_if, levels, split_from, split}
use Rattle.wf_model.specs.Outline.{Item, written, left_out, box_left, closed_to, opened_at, opened, boxes_left_out, opened_if, opened_levels, outline, filled}
use Rattle.wf_model.specs.Laws.{IsRefutedBy}
use Rattle.wf_model.proofs.Headline.{each_append}
use Rattle.wf_model.proofs.CanonicalSteps.{Leaves, leaves_both, closing_leaves, length_filter, open_point}
use Rattle.wf_model.proofs.CanonicalRefutations.{LeadsTo, leads_closing, before_losses}
use Rattle.wf_model.proofs.LastSweep.{closing_stable}
use Rattle.wf_model.proofs.ClosingKeeps.{IsInside, closing_inside}
use Rattle.wf_model.proofs.ClosedBoxes.{filled as filled_box, closing_again}

-- ---- the boxes of an outline

pub boxes_append : (xs ys : List Item) → boxes_left_out (xs ++ ys) ≡ boxes_left_out xs ++ boxes_left_out ys
boxes_append [] ys = refl
boxes_append (written l ∷ xs) ys = boxes_append xs ys
boxes_append (left_out box ∷ xs) ys = ap (λ bs. box ∷ bs) (boxes_append xs ys)

boxes_after : (ls : List Line) (o : Option Box) (rest : List Item) → boxes_left_out ((map written ls ++ box_left o) ++ rest) ≡ cons_option o (boxes_left_out rest)
boxes_after [] None rest = refl
boxes_after [] (Some b) rest = refl
boxes_after (l ∷ ls) o rest = boxes_after ls o rest

module _ (p : Problem) where
  boxes_closed : (boxes : List Box) → boxes_left_out (flat_map (λ b. closed_to (closing p b)) boxes) ≡ filter_map (closed p) boxes
  boxes_closed [] = refl
  boxes_closed (b ∷ boxes) = boxes_after (closing p b).lines (closing p b).left (flat_map (λ b. closed_to (closing p b)) boxes) ∙ ap (cons_option (closed p b)) (boxes_closed boxes)

  boxes_opened : (box : Box) → boxes_left_out (opened p (left_out box)) ≡ children p box
  boxes_opened box = by_open (first_open box)
    where
      by_open : (o : Option ℕ) → boxes_left_out (opened_at o p box) ≡ children_at o p box
      by_open None = refl
      by_open (Some v) = boxes_closed (branches_at box v)

  pub boxes_level : (items : List Item) → boxes_left_out (flat_map (opened p) items) ≡ flat_map (children p) (boxes_left_out items)
  boxes_level [] = refl
  boxes_level (written l ∷ items) = boxes_level items
  boxes_level (left_out box ∷ items) =
      boxes_append (opened p (left_out box)) (flat_map (opened p) items)
      ∙ ap (λ bs. bs ++ boxes_left_out (flat_map (opened p) items)) (boxes_opened box)
      ∙ ap (λ bs. children p box ++ bs) (boxes_level items)

  boxes_levels : (n : ℕ) (items : List Item) → boxes_left_out (opened_levels n p items) ≡ levels n p (boxes_left_out items)
  boxes_levels zero items = refl
  boxes_levels (suc n) items = by_test (nat_lt (length (boxes_left_out items)) 64 && list_any is_open (boxes_left_out items)) (boxes_levels n (flat_map (opened p) items))
    where
      by_test : (b : Bool) → boxes_left_out (opened_levels n p (flat_map (opened p) items)) ≡ levels n p (boxes_left_out (flat_map (opened p) items))
          → boxes_left_out (opened_if b p items (opened_levels n p)) ≡ level_if b p (boxes_left_out items) (levels n p)
      by_test false next = refl
      by_test true next = next ∙ ap (levels n p) (boxes_level items)

  -- the boxes are the branches
  pub boxes_outline : boxes_left_out (outline p) ≡ split p
  boxes_outline = boxes_levels 8 (closed_to (closing p (root p))) ∙ by_left (closing p (root p)).lines (closed p (root p))
    where
      by_left : (ls : List Line) (o : Option Box) → levels 8 p (boxes_left_out (map written ls ++ box_left o)) ≡ split_from p o
      by_left [] None = refl
      by_left [] (Some b) = refl
      by_left (l ∷ ls) o = by_left ls o

-- ---- lines in the place of boxes

module _ (P : Box → List Line → Type 0) where
  -- these lines are the outline's, with lines of which P holds in the place of each box
  abbrev pub Fits : List Item → List Line → Type 0
  Fits [] whole = whole ≡ []
  Fits (written l ∷ items) whole = (rest : List Line) × (whole ≡ l ∷ rest) × Fits items rest
  Fits (left_out box ∷ items) whole = (here rest : List Line) × (whole ≡ here ++ rest) × P box here × Fits items rest

  -- and for boxes one after another
  abbrev pub Each : List Box → List Line → Type 0
  Each [] whole = whole ≡ []
  Each (box ∷ boxes) whole = (here rest : List Line) × (whole ≡ here ++ rest) × P box here × Each boxes rest

  fits_parts : (xs ys : List Item) (whole : List Line) → Fits (xs ++ ys) whole → (first rest : List Line) × (whole ≡ first ++ rest) × Fits xs first × Fits ys rest
  fits_parts [] ys whole h = ([], whole, refl, refl, h)
  fits_parts (written l ∷ xs) ys whole (rest, is, h) =
      let r = fits_parts xs ys rest h in
      (l ∷ r.0, r.1, is ∙ ap (λ ls. l ∷ ls) r.2, (r.0, refl, r.3), r.4)
  fits_parts (left_out box ∷ xs) ys whole (here, rest, is, holds, h) =
      let r = fits_parts xs ys rest h in
      (here ++ r.0, r.1, is ∙ ap (λ ls. here ++ ls) r.2 ∙ sym (append_assoc here r.0 r.1), (here, r.0, refl, holds, r.3), r.4)

  fits_lines : (ls : List Line) (items : List Item) (whole : List Line) → Fits (map written ls ++ items) whole → (rest : List Line) × (whole ≡ ls ++ rest) × Fits items rest
  fits_lines [] items whole h = (whole, refl, h)
  fits_lines (l ∷ ls) items whole (rest, is, h) = let r = fits_lines ls items rest h in (r.0, is ∙ ap (λ ms. l ∷ ms) r.1, r.2)

  -- lists for the boxes fit
  pub fits_filled : (items : List Item) (lists : List (List Line)) → AllZip P (boxes_left_out items) lists → Fits items (filled items lists)
  fits_filled [] lists h = refl
  fits_filled (written l ∷ items) lists h = (filled items lists, refl, fits_filled items lists h)
  fits_filled (left_out box ∷ items) [] h = absurd h
  fits_filled (left_out box ∷ items) (ls ∷ lists) h = (ls, filled items lists, refl, h.0, fits_filled items lists h.1)

-- ---- from the branches to the root

-- closing the box changes nothing
abbrev pub IsStill : Problem → Box → Type 0
IsStill p box = closing p box ≡ keeps box

module _ (p : Problem) where
  pub leaves_still : (box : Box) → Leaves (IsStill p) (closing p box).left
  leaves_still box =
      leaves_both (λ b. (sweep p b).lines ≡ []) (IsInside box) (IsStill p) (λ b stable in'. closing_again p b stable (filled_box b in'.full)) (closing p box).left
      (closing_stable p box) (closing_inside p box)

  still_closed : (boxes : List Box) → AllByRecursion (IsStill p) (boxes_left_out (flat_map (λ b. closed_to (closing p b)) boxes))
  still_closed [] = tt
  still_closed (box ∷ boxes) =
      subst (AllByRecursion (IsStill p)) (sym (boxes_after (closing p box).lines (closing p box).left (flat_map (λ b. closed_to (closing p b)) boxes)))
      (with_option (closing p box).left (boxes_left_out (flat_map (λ b. closed_to (closing p b)) boxes)) (leaves_still box) (still_closed boxes))
    where
      with_option : (o : Option Box) (rest : List Box) → Leaves (IsStill p) o → AllByRecursion (IsStill p) rest → AllByRecursion (IsStill p) (cons_option o rest)
      with_option None rest h k = k
      with_option (Some b) rest h k = (h, k)

  pub still_level : (items : List Item) → AllByRecursion (IsStill p) (boxes_left_out items) → AllByRecursion (IsStill p) (boxes_left_out (flat_map (opened p) items))
  still_level [] h = tt
  still_level (written l ∷ items) h = still_level items h
  still_level (left_out box ∷ items) h =
      subst (AllByRecursion (IsStill p)) (sym (boxes_append (opened p (left_out box)) (flat_map (opened p) items)))
      (each_append (IsStill p) (boxes_left_out (opened p (left_out box))) (boxes_left_out (flat_map (opened p) items)) (by_open (first_open box)) (still_level items h.1))
    where
      by_open : (o : Option ℕ) → AllByRecursion (IsStill p) (boxes_left_out (opened_at o p box))
      by_open None = (h.0, tt)
      by_open (Some v) = still_closed (branches_at box v)

  pub still_root : (ls : List Line) (o : Option Box) → Leaves (IsStill p) o → AllByRecursion (IsStill p) (boxes_left_out (map written ls ++ box_left o))
  still_root [] None h = tt
  still_root [] (Some b) h = (h, tt)
  still_root (l ∷ ls) o h = still_root ls o h

-- what holds of the lines of all branches of a box holds of the box's lines
pub record IsStepwise (p : Problem) (P : Box → List Line → Type 0) : Type 0 where
  pub emptied : (box : Box) → (closing p box).left ≡ None → P box (closing p box).lines
  pub closed : (box b : Box) (ls : List Line) → (closing p box).left ≡ Some b → P b ls → P box ((closing p box).lines ++ ls)
  pub branched : (box : Box) (v : ℕ) (ls : List Line) → IsStill p box → first_open box ≡ Some v → Each P (branches_at box v) ls → P box (branch v ∷ ls)

module _ (p : Problem) (P : Box → List Line → Type 0) (steps : IsStepwise p P) where
  from_closed : (box : Box) (whole : List Line) → Fits P (closed_to (closing p box)) whole → P box whole
  from_closed box whole h = let r = fits_lines P (closing p box).lines (box_left (closing p box).left) whole h in by_left (closing p box).left refl r.0 r.1 r.2
    where
      by_left : (o : Option Box) → (closing p box).left ≡ o → (rest : List Line) → whole ≡ (closing p box).lines ++ rest → Fits P (box_left o) rest → P box whole
      by_left None is rest e none = subst (P box) (sym (e ∙ ap (λ ls. (closing p box).lines ++ ls) none ∙ append-nil (closing p box).lines)) (steps.emptied box is)
      by_left (Some b) is rest e (here, more, parts, holds, none) =
          let same : rest ≡ here = parts ∙ ap (λ ls. here ++ ls) none ∙ append-nil here in
          subst (P box) (sym (e ∙ ap (λ ls. (closing p box).lines ++ ls) same)) (steps.closed box b here is holds)

  from_each : (boxes : List Box) (whole : List Line) → Fits P (flat_map (λ b. closed_to (closing p b)) boxes) whole → Each P boxes whole
  from_each [] whole h = h
  from_each (box ∷ boxes) whole h =
      let r = fits_parts P (closed_to (closing p box)) (flat_map (λ b. closed_to (closing p b)) boxes) whole h in
      (r.0, r.1, r.2, from_closed box r.0 r.3, from_each boxes r.1 r.4)

  from_opened : (box : Box) (whole : List Line) → IsStill p box → Fits P (opened p (left_out box)) whole → P box whole
  from_opened box whole still h = by_open (first_open box) refl h
    where
      by_open : (o : Option ℕ) → first_open box ≡ o → Fits P (opened_at o p box) whole → P box whole
      by_open None is (here, rest, parts, holds, none) = subst (P box) (sym (parts ∙ ap (λ ls. here ++ ls) none ∙ append-nil here)) holds
      by_open (Some v) is (rest, e, h) = subst (P box) (sym e) (steps.branched box v rest still is (from_each (branches_at box v) rest h))

  from_level : (items : List Item) → AllByRecursion (IsStill p) (boxes_left_out items) → (whole : List Line) → Fits P (flat_map (opened p) items) whole → Fits P items whole
  from_level [] still whole h = h
  from_level (written l ∷ items) still whole (rest, e, h) = (rest, e, from_level items still rest h)
  from_level (left_out box ∷ items) still whole h =
      let r = fits_parts P (opened p (left_out box)) (flat_map (opened p) items) whole h in
      (r.0, r.1, r.2, from_opened box r.0 still.0 r.3, from_level items still.1 r.1 r.4)

  from_levels : (n : ℕ) (items : List Item) → AllByRecursion (IsStill p) (boxes_left_out items) → (whole : List Line) → Fits P (opened_levels n p items) whole → Fits P items whole
  from_levels zero items still whole h = h
  from_levels (suc n) items still whole h =
      by_test (nat_lt (length (boxes_left_out items)) 64 && list_any is_open (boxes_left_out items)) (from_levels n (flat_map (opened p) items) (still_level p items still) whole) h
    where
      by_test : (b : Bool) → (Fits P (opened_levels n p (flat_map (opened p) items)) whole → Fits P (flat_map (opened p) items) whole)
          → Fits P (opened_if b p items (opened_levels n p)) whole → Fits P items whole
      by_test false next h = h
      by_test true next h = from_level items still whole (next h)

  -- lists of which P holds for the branches make lines of which it holds for the root
  pub from_branches : (lists : List (List Line)) → AllZip P (split p) lists → P (root p) (filled (outline p) lists)
  from_branches lists h =
      from_closed (root p) (filled (outline p) lists)
      (from_levels 8 (closed_to (closing p (root p))) (still_root p (closing p (root p)).lines (closing p (root p)).left (leaves_still p (root p))) (filled (outline p) lists)
      (fits_filled P (outline p) lists (subst (λ bs. AllZip P bs lists) (sym (boxes_outline p)) h)))

-- ---- refutations

module _ (p : Problem) where
  trees_of : (boxes : List Box) (whole : List Line) → Each (IsRefutedBy p) boxes whole → (ts : Trees) × (lines_each ts ≡ whole) × RefutesEach p ts boxes
  trees_of [] whole h = (no_trees, sym h, tt)
  trees_of (box ∷ boxes) whole (here, rest, e, (t, is, refutes), h) =
      let r = trees_of boxes rest h in
      (tree t r.0, (λ i. is i ++ r.1 i) ∙ sym e, (refutes, r.2))

  refutes_stepwise : IsStepwise p (IsRefutedBy p)
  refutes_stepwise = record {
    emptied = λ box is. let leads : LeadsTo p box (closing p box).lines None = subst (LeadsTo p box (closing p box).lines) is (leads_closing p box) in (leads.0, leads.1, leads.2);
    closed = λ box b ls is r.
        before_losses p (IsRefutedBy p) (λ box e c a v ms lost q. (removed e c a v q.0, ap (λ l. remove e c a ∷ l) q.1, (lost, q.2))) (closing p box).lines box b
        (subst (LeadsTo p box (closing p box).lines) is (leads_closing p box)) ls r;
    branched = λ box v ls still is each. let ts = trees_of (branches_at box v) ls each in (branched v ts.0, ap (λ l. branch v ∷ l) ts.1, (open_point box v is, ts.2));
  }

  pub filled_refutes : (lists : List (List Line)) → AllZip (IsRefutedBy p) (split p) lists → IsRefutedBy p (root p) (filled (outline p) lists)
  filled_refutes = from_branches p (IsRefutedBy p) refutes_stepwise

-- ---- how many branches there are

-- no point has more than 256 candidates
abbrev IsSmall : Box → Type 0
IsSmall box = (v : ℕ) → length (candidates box v) ≤ 256

fewer_without : (box : Box) (v a u : ℕ) → length (candidates (without box v a) u) ≤ length (candidates box u)
fewer_without [] v a u = omega arith
fewer_without (s ∷ box) zero a zero = length_filter (λ b. not (b == a)) s
fewer_without (s ∷ box) zero a (suc u) = omega arith
fewer_without (s ∷ box) (suc v) a zero = omega arith
fewer_without (s ∷ box) (suc v) a (suc u) = fewer_without box v a u

small_decided : (box : Box) (v a u : ℕ) → length (candidates box u) ≤ 256 → length (candidates (decided box v a) u) ≤ 256
small_decided [] v a u h = h
small_decided (s ∷ box) zero a zero h = omega arith
small_decided (s ∷ box) zero a (suc u) h = h
small_decided (s ∷ box) (suc v) a zero h = h
small_decided (s ∷ box) (suc v) a (suc u) h = small_decided box v a u h

small_closed : (p : Problem) (box : Box) → IsSmall box → Leaves IsSmall (closed p box)
small_closed p box h =
    leaves_both (λ b. (v : ℕ) → length (candidates b v) ≤ length (candidates box v)) (λ b. Unit {0}) IsSmall (λ b less _ v. le_trans (less v) (h v)) (closed p box)
    (closing_leaves p (λ a b. (v : ℕ) → length (candidates b v) ≤ length (candidates a v)) (λ b v. omega arith) (λ a b c h k v. le_trans (k v) (h v)) fewer_without box) (always (closed p box))
  where
    always : (o : Option Box) → Leaves (λ b. Unit {0}) o
    always None = tt
    always (Some b) = tt

module _ (p : Problem) where
  small_each : (box : Box) (v : ℕ) (values : List ℕ) → IsSmall box → AllByRecursion IsSmall (filter_map (closed p) (map (decided box v) values)) × (length (filter_map (closed p) (map (decided box v) values)) ≤ length values)
  small_each box v [] h = (tt, omega arith)
  small_each box v (a ∷ values) h =
      with_option (closed p (decided box v a)) (filter_map (closed p) (map (decided box v) values)) (small_closed p (decided box v a) (λ u. small_decided box v a u (h u))) (small_each box v values h)
    where
      with_option : (o : Option Box) (rest : List Box) → Leaves IsSmall o → AllByRecursion IsSmall rest × (length rest ≤ length values)
          → AllByRecursion IsSmall (cons_option o rest) × (length (cons_option o rest) ≤ length (a ∷ values))
      with_option None rest here all = (all.0, let few = all.1 in omega (arith, few))
      with_option (Some b) rest here all = ((here, all.0), let few = all.1 in omega (arith, few))

  small_children : (box : Box) → IsSmall box → AllByRecursion IsSmall (children p box) × (length (children p box) ≤ 256)
  small_children box h = by_open (first_open box)
    where
      by_open : (o : Option ℕ) → AllByRecursion IsSmall (children_at o p box) × (length (children_at o p box) ≤ 256)
      by_open None = ((h, tt), omega arith)
      by_open (Some v) = let r = small_each box v (candidates box v) h in (r.0, le_trans r.1 (h v))

  small_level : (boxes : List Box) → AllByRecursion IsSmall boxes → AllByRecursion IsSmall (flat_map (children p) boxes) × (length (flat_map (children p) boxes) ≤ 256 * length boxes)
  small_level [] h = (tt, omega arith)
  small_level (box ∷ boxes) h =
      let here = small_children box h.0 in
      let rest = small_level boxes h.1 in
      let few = here.1 in
      let fewer = rest.1 in
      (each_append IsSmall (children p box) (flat_map (children p) boxes) here.0 rest.0, omega (arith, length-append (children p box) (flat_map (children p) boxes), few, fewer))

  few_levels : (n : ℕ) (boxes : List Box) → AllByRecursion IsSmall boxes → length boxes ≤ 16128 → length (levels n p boxes) ≤ 16128
  few_levels zero boxes h few = few
  few_levels (suc n) boxes h few = by_test (nat_lt (length boxes) 64 && list_any is_open boxes) refl (few_levels n (flat_map (children p) boxes))
    where
      by_test : (b : Bool) → (nat_lt (length boxes) 64 && list_any is_open boxes) ≡ b
          → (AllByRecursion IsSmall (flat_map (children p) boxes) → length (flat_map (children p) boxes) ≤ 16128 → length (levels n p (flat_map (children p) boxes)) ≤ 16128)
          → length (level_if b p boxes (levels n p)) ≤ 16128
      by_test false is rest = few
      by_test true is rest =
          let next = small_level boxes h in
          let many = next.1 in
          let below = ltb-true (length boxes) 64 (and_parts (nat_lt (length boxes) 64) (list_any is_open boxes) is).0 in
          rest next.0 (omega (arith, many, below))

  small_root : (n : ℕ) (values : List ℕ) → length values ≤ 256 → IsSmall (replicate n values)
  small_root zero values few v = omega arith
  small_root (suc n) values few zero = few
  small_root (suc n) values few (suc v) = small_root n values few v

  pub few_branches : length p.values ≤ 256 → length (split p) ≤ 16128
  few_branches few = by_left (closed p (root p)) (small_closed p (root p) (small_root p.points p.values few))
    where
      by_left : (o : Option Box) → Leaves IsSmall o → length (split_from p o) ≤ 16128
      by_left None h = omega arith
      by_left (Some b) h = few_levels 8 (b ∷ []) (h, tt) (omega arith)
