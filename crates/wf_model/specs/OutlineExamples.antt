-- Worked examples of outlines, by computation.
use Rattle.std.specs.Prelude.{◌≡◌, [], ◌∷◌, map, refl}
use Rattle.wf_model.specs.ExampleTasks.{path, consensus, renaming_2_2}
use Rattle.wf_model.specs.Problem.{problem_of}
use Rattle.wf_model.specs.Refutation.{remove, empty, branch, found}
use Rattle.wf_model.specs.Outline.{written, left_out, outline, filled, filled_up_to}

-- the root is closed; point 2 has the candidates 1 and 2; with 1, point 3 has
-- 0 and 1 still; with 2, it has 1 alone
pub path_2_outline : outline (problem_of (path 2) 1)
    ≡ written (remove 0 0 1) ∷ written (remove 0 0 2) ∷ written (remove 1 1 0) ∷ written (remove 1 1 1)
    ∷ written (remove 3 1 2) ∷ written (remove 4 0 0)
    ∷ written (branch 2)
    ∷ written (branch 3)
    ∷ left_out ((0 ∷ []) ∷ (2 ∷ []) ∷ (1 ∷ []) ∷ (0 ∷ []) ∷ [])
    ∷ left_out ((0 ∷ []) ∷ (2 ∷ []) ∷ (1 ∷ []) ∷ (1 ∷ []) ∷ [])
    ∷ written (remove 2 1 0)
    ∷ left_out ((0 ∷ []) ∷ (2 ∷ []) ∷ (2 ∷ []) ∷ (1 ∷ []) ∷ []) ∷ []
path_2_outline = refl

-- each branch is empty, and no box is left out
pub renaming_outline : outline (problem_of renaming_2_2 1)
    ≡ map written (branch 0 ∷ remove 3 1 0 ∷ remove 4 0 0 ∷ remove 2 0 1 ∷ empty 1 ∷ remove 3 1 1 ∷ remove 4 0 1 ∷ remove 2 0 0
    ∷ empty 1 ∷ [])
renaming_outline = refl

-- closing empties a point of the root
pub consensus_outline : outline (problem_of consensus 0) ≡ map written (remove 0 0 1 ∷ remove 1 1 0 ∷ remove 2 0 0 ∷ empty 0 ∷ [])
consensus_outline = refl

-- the lists come in the places of the boxes, in order
pub two_boxes_are_filled : filled (written (branch 0) ∷ left_out ((1 ∷ []) ∷ []) ∷ written (branch 1)
    ∷ left_out ((2 ∷ []) ∷ []) ∷ []) ((remove 0 0 1 ∷ empty 2 ∷ []) ∷ (empty 3 ∷ []) ∷ [])
    ≡ branch 0 ∷ remove 0 0 1 ∷ empty 2 ∷ branch 1 ∷ empty 3 ∷ []
two_boxes_are_filled = refl

-- the second list is the last, so the line after its box isn't written
pub two_boxes_are_filled_up_to_the_last : filled_up_to (written (branch 0) ∷ left_out ((1 ∷ []) ∷ []) ∷ written (branch 1)
    ∷ left_out ((2 ∷ []) ∷ []) ∷ written (branch 2) ∷ []) ((remove 0 0 1 ∷ empty 2 ∷ []) ∷ (found ∷ []) ∷ [])
    ≡ branch 0 ∷ remove 0 0 1 ∷ empty 2 ∷ branch 1 ∷ found ∷ []
two_boxes_are_filled_up_to_the_last = refl

-- the map is that of the first branch
pub path_2_is_filled_up_to_its_map : filled_up_to (outline (problem_of (path 2) 1)) ((found ∷ []) ∷ [])
    ≡ remove 0 0 1 ∷ remove 0 0 2 ∷ remove 1 1 0 ∷ remove 1 1 1 ∷ remove 3 1 2 ∷ remove 4 0 0 ∷ branch 2 ∷ branch 3 ∷ found ∷ []
path_2_is_filled_up_to_its_map = refl
