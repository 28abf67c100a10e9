-- The outline of a problem, as the code keeps it.
use Rattle.std.specs.Prelude.{◌≡◌, ◌&&◌, ℕ, nat_lt, Bool, List, [], ◌∷◌, ◌++◌, map, length, flat_map, Vec, Some, None}
use Rattle.std.specs.List.{AllByRecursion, list_any}
use Rattle.wf_model.specs.Limits.{enough_boxes}
use Rattle.wf_model.specs.Problem.{Problem}
use Rattle.wf_model.specs.Box.{Box, branches_at, first_empty}
use Rattle.wf_model.specs.Closing.{sweep}
use Rattle.wf_model.specs.Laws.{IsBoxOf}
use Rattle.wf_model.specs.Refutation as refutation
use Rattle.wf_model.specs.Split.{is_open}
use Rattle.wf_model.specs.Outline.{Item, written, left_out, boxes_left_out, closed_each}
use Rattle.wf_base.specs.Lines.Lines.{line_of}
use Rattle.wf_base.specs.declared.lines.line.Line.{Line}
use Rattle.wf_box.specs.Boxes.{IsFor, Tracked}
use Rattle.wf_search.specs.declared.outline.Gap.{Gap}
use Rattle.wf_search.specs.declared.outline.Outline.TheInside.{Inside}

-- lines as they are written
abbrev pub as_written : List Line → List Item
as_written lines = map written (map line_of lines)

-- the lines before a box, and the box in the place of its own
abbrev pub gap_seen : Gap → List Item
gap_seen s = as_written s.before.items ++ left_out s.boxed.sets ∷ []

abbrev pub outline_seen : Inside → List Item
outline_seen o = flat_map gap_seen o.gaps.items ++ as_written o.after.items

-- a box of the problem in which a sweep loses nothing and no point is without a candidate
pub record IsClosedBox (p : Problem) (box : Box) : Type 0 where
  pub is_box : IsBoxOf p box
  pub closed : (sweep p box).lines ≡ []
  pub filled : first_empty box ≡ None

-- the box was closed, and has not changed since; it keeps no answer of the kernel
pub record IsJustClosed (b : Tracked) : Type 0 where
  pub closed : b.closed ≡ Some (length b.trail)
  pub fresh : b.known ≡ []

-- it is the problem's if its candidates are those of a closed box
abbrev pub IsForIfClosed : Tracked → Type 0
IsForIfClosed b = (p : Problem) → IsClosedBox p b.sets → IsFor p b

abbrev pub AreJustClosed : Inside → Type 0
AreJustClosed o = AllByRecursion (λ (s : Gap). IsJustClosed s.boxed) o.gaps.items

-- whether a further level is opened
abbrev pub is_to_open : List Item → Bool
is_to_open items = nat_lt (length (boxes_left_out items)) enough_boxes && list_any is_open (boxes_left_out items)

-- the closed branches of a box at a point
abbrev pub branches_closed : Problem → Box → ℕ → List Item
branches_closed p box v = closed_each p (branches_at box v)

-- the lines before each box and those of its list, for as many boxes as there are lists
abbrev pub gaps_filled : {A : Type 0} → List Gap → List (Vec Line A) → List refutation.Line
gaps_filled gaps [] = []
gaps_filled [] (list ∷ lists) = []
gaps_filled (s ∷ gaps) (list ∷ lists) = map line_of s.before.items ++ (map line_of list.items ++ gaps_filled gaps lists)

abbrev pub AreGapsFilled : {A B : Type 0} → List Gap → List (Vec Line A) → Vec Line B → Type 0
AreGapsFilled gaps lists lines = map line_of lines.items ≡ gaps_filled gaps lists

-- the new lines are the old ones and these
abbrev pub Adds : List Line → List Line → List refutation.Line → Type 0
Adds old new added = map line_of new ≡ map line_of old ++ added
