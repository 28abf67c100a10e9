-- What is written while the root is cut into branches, with the branches in
-- the place of their lines.
use Rattle.std.specs.Prelude.{ℕ, zero, suc, nat_lt, ◌&&◌, Bool, true, false, List, [], ◌∷◌, ◌++◌, map, length, flat_map, Option, Some, None}
use Rattle.std.specs.List.{list_any}
use Rattle.wf_model.specs.Limits.{enough_boxes, most_levels}
use Rattle.wf_model.specs.Problem.{Problem}
use Rattle.wf_model.specs.Box.{Box, root, first_open, branches_at}
use Rattle.wf_model.specs.Refutation.{Line, branch}
use Rattle.wf_model.specs.Closing.{Step, closing}
use Rattle.wf_model.specs.Split.{is_open}

-- a line, or a box in the place of the lines that refute it
pub data Item : Type 0 where
  written : Line → Item
  left_out : Box → Item

-- the box that is left, if one is
abbrev pub box_left : Option Box → List Item
box_left None = []
box_left (Some box) = left_out box ∷ []

-- the lines of a closing, and the box that it left
abbrev pub closed_to : Step → List Item
closed_to s = map written s.lines ++ box_left s.left

-- the closings of boxes, one after another
abbrev pub closed_each : Problem → List Box → List Item
closed_each p boxes = flat_map (λ box. closed_to (closing p box)) boxes

-- a box as its branching and its closed branches; a box with no open point stays
abbrev pub opened_at : Option ℕ → Problem → Box → List Item
opened_at None p box = left_out box ∷ []
opened_at (Some v) p box = written (branch v) ∷ closed_each p (branches_at box v)

abbrev pub opened : Problem → Item → List Item
opened p (written l) = written l ∷ []
opened p (left_out box) = opened_at (first_open box) p box

-- the boxes whose lines are left out, in order
abbrev pub boxes_left_out : List Item → List Box
boxes_left_out [] = []
boxes_left_out (written l ∷ items) = boxes_left_out items
boxes_left_out (left_out box ∷ items) = box ∷ boxes_left_out items

-- a further level, unless there are boxes enough
abbrev pub opened_if : Bool → Problem → List Item → (List Item → List Item) → List Item
opened_if false p items next = items
opened_if true p items next = next (flat_map (opened p) items)

-- at most n levels, and none once there are enough boxes or no open one
abbrev pub opened_levels : ℕ → Problem → List Item → List Item
opened_levels zero p items = items
opened_levels (suc n) p items =
    opened_if (nat_lt (length (boxes_left_out items)) enough_boxes && list_any is_open (boxes_left_out items)) p items (opened_levels n p)

-- the root of a problem, cut into its branches
abbrev pub outline : Problem → List Item
outline p = opened_levels most_levels p (closed_to (closing p (root p)))

-- an outline with lines in the place of its boxes, one list for each
abbrev pub filled : List Item → List (List Line) → List Line
filled [] lists = []
filled (written l ∷ items) lists = l ∷ filled items lists
filled (left_out box ∷ items) [] = filled items []
filled (left_out box ∷ items) (lines ∷ lists) = lines ++ filled items lists

-- an outline with the lists in the place of its first boxes, up to the last of the lists: what
-- stands after them is not written
abbrev pub filled_up_to : List Item → List (List Line) → List Line
filled_up_to [] lists = []
filled_up_to (written l ∷ items) lists = l ∷ filled_up_to items lists
filled_up_to (left_out box ∷ items) [] = []
filled_up_to (left_out box ∷ items) (lines ∷ []) = lines
filled_up_to (left_out box ∷ items) (lines ∷ next ∷ lists) = lines ++ filled_up_to items (next ∷ lists)
