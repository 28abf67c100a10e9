-- The lines that are written while the root is cut into branches have small values.
use Rattle.std.proofs.Common.{ℕ, zero, suc, Bool, true, false, List, [], ◌∷◌, map, Option, Some, None}
use Rattle.std.specs.List.{AllByRecursion, list_any}
use Rattle.std.specs.Prelude.{nat_lt, ◌&&◌, length}
use Rattle.wf_model.specs.Limits.{enough_boxes, most_levels}
use Rattle.wf_model.specs.Problem.{Problem}
use Rattle.wf_model.specs.Box.{Box, branches_at, first_empty, first_open, root}
use Rattle.wf_model.specs.Refutation.{Line}
use Rattle.wf_model.specs.Closing.{Step, closing}
use Rattle.wf_model.specs.Split.{is_open}
use Rattle.wf_model.specs.Outline.{Item, box_left, boxes_left_out, closed_each, closed_to, filled, filled_up_to, left_out, opened, opened_at, opened_if, opened_levels, outline, written}
use Rattle.wf_model.proofs.Lemmas.{weaker, Leaves, each_append, each_flat, each_map}
use Rattle.wf_run_verify.proofs.Lemmas.{AreSmall, HasSmallValue, KeepsSmall, branches_small, closing_small}

-- a line with a small value, or a box with small candidates
abbrev IsSmallItem : Item → Type 0
IsSmallItem (written l) = HasSmallValue l
IsSmallItem (left_out box) = AreSmall box

-- each of the lines has a small value
abbrev pub AreSmallLines : List Line → Type 0
AreSmallLines ls = AllByRecursion HasSmallValue ls

left_small : (left : Option Box) → Leaves AreSmall left → AllByRecursion IsSmallItem (box_left left)
left_small None h = tt
left_small (Some box) h = (h, tt)

closed_small : (s : Step) → KeepsSmall s.lines s.left → AllByRecursion IsSmallItem (closed_to s)
closed_small s h = each_append IsSmallItem (map written s.lines) (box_left s.left) (each_map IsSmallItem written s.lines h.0) (left_small s.left h.1)

each_small : (p : Problem) (boxes : List Box) → AllByRecursion AreSmall boxes → AllByRecursion IsSmallItem (closed_each p boxes)
each_small p boxes h =
    each_flat IsSmallItem (λ box. closed_to (closing p box)) boxes
    (weaker AreSmall (λ box. AllByRecursion IsSmallItem (closed_to (closing p box))) (λ box k. closed_small (closing p box) (closing_small p (first_empty box) box k)) boxes h)

at_small : (o : Option ℕ) (p : Problem) (box : Box) → AreSmall box → AllByRecursion IsSmallItem (opened_at o p box)
at_small None p box h = (h, tt)
at_small (Some v) p box h = (tt, each_small p (branches_at box v) (branches_small box v h))

opened_small : (p : Problem) (item : Item) → IsSmallItem item → AllByRecursion IsSmallItem (opened p item)
opened_small p (written l) h = (h, tt)
opened_small p (left_out box) h = at_small (first_open box) p box h

level_small : (is_to_open : Bool) (p : Problem) (items : List Item) (next : List Item → List Item) → ((more : List Item) → AllByRecursion IsSmallItem more → AllByRecursion IsSmallItem (next more))
    → AllByRecursion IsSmallItem items → AllByRecursion IsSmallItem (opened_if is_to_open p items next)
level_small false p items next keeps h = h
level_small true p items next keeps h =
    keeps _ (each_flat IsSmallItem (opened p) items (weaker IsSmallItem (λ item. AllByRecursion IsSmallItem (opened p item)) (opened_small p) items h))

levels_small : (n : ℕ) (p : Problem) (items : List Item) → AllByRecursion IsSmallItem items → AllByRecursion IsSmallItem (opened_levels n p items)
levels_small zero p items h = h
levels_small (suc n) p items h =
    level_small (nat_lt (length (boxes_left_out items)) enough_boxes && list_any is_open (boxes_left_out items)) p items (opened_levels n p) (λ more k. levels_small n p more k) h

outline_small : (p : Problem) → AreSmall (root p) → AllByRecursion IsSmallItem (outline p)
outline_small p h = levels_small most_levels p (closed_to (closing p (root p))) (closed_small (closing p (root p)) (closing_small p (first_empty (root p)) (root p) h))

filled_in : (items : List Item) (lists : List (List Line)) → AllByRecursion IsSmallItem items → AllByRecursion AreSmallLines lists → AreSmallLines (filled items lists)
filled_in [] lists h k = tt
filled_in (written l ∷ items) lists h k = (h.0, filled_in items lists h.1 k)
filled_in (left_out box ∷ items) [] h k = filled_in items [] h.1 tt
filled_in (left_out box ∷ items) (ls ∷ lists) h k = each_append HasSmallValue ls (filled items lists) k.0 (filled_in items lists h.1 k.1)

filled_to : (items : List Item) (lists : List (List Line)) → AllByRecursion IsSmallItem items → AllByRecursion AreSmallLines lists → AreSmallLines (filled_up_to items lists)
filled_to [] lists h k = tt
filled_to (written l ∷ items) lists h k = (h.0, filled_to items lists h.1 k)
filled_to (left_out box ∷ items) [] h k = tt
filled_to (left_out box ∷ items) (ls ∷ []) h k = k.0
filled_to (left_out box ∷ items) (ls ∷ next ∷ lists) h k = each_append HasSmallValue ls (filled_up_to items (next ∷ lists)) k.0 (filled_to items (next ∷ lists) h.1 k.1)

-- so have those of the whole question, where those of the branches have
pub filled_small : (p : Problem) (lists : List (List Line)) → AreSmall (root p) → AllByRecursion AreSmallLines lists → AreSmallLines (filled (outline p) lists)
filled_small p lists h k = filled_in (outline p) lists (outline_small p h) k

pub filled_up_small : (p : Problem) (lists : List (List Line)) → AreSmall (root p) → AllByRecursion AreSmallLines lists → AreSmallLines (filled_up_to (outline p) lists)
filled_up_small p lists h k = filled_to (outline p) lists (outline_small p h) k
