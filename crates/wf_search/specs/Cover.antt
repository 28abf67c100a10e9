-- What a cover gives: its branches, and one list of lines for the root from those of the branches.
use Rattle.std.specs.Prelude.{◌≡◌, ℕ, List, [], map, All, Vec}
use Rattle.std.specs.List.{slice_index_or}
use Rattle.wf_model.specs.Problem.{IsWellFormed, Problem}
use Rattle.wf_model.specs.Box.{Box, root}
use Rattle.wf_model.specs.Refutation as refutation
use Rattle.wf_model.specs.Split.{IsOrderedCover, split}
use Rattle.wf_model.specs.Outline.{Item, boxes_left_out, filled, filled_up_to, outline}
use Rattle.wf_model.specs.Laws.{AreCanonicalForBranches, HasCanonicalLines, HasCanonicalMap, IsClosedBranch, IsRefutedBy, LeadToMap, RefuteBranches}
use Rattle.wf_box.specs.Boxes.{IsFor, Tracked}
use Rattle.wf_base.specs.Lines.Lines.{line_of}
use Rattle.wf_base.specs.declared.lines.line.Line.{Line}

-- the lines of each list
abbrev pub each_seen : {A : Type 0} → List (Vec Line A) → List (List refutation.Line)
each_seen lists = map (λ list. map line_of list.items) lists

-- the branch of this number
abbrev pub branch_at : List Item → ℕ → Box
branch_at cover number = slice_index_or (boxes_left_out cover) number []

-- ---- of the problem whose cover it is

-- the branches cover the root in order
abbrev pub CoversRoot : Problem → List Item → Type 0
CoversRoot p cover = IsOrderedCover p (root p) (boxes_left_out cover)

-- each branch is a closed box within the root, with a candidate at every point
abbrev pub AreClosedBranches : Problem → List Item → Type 0
AreClosedBranches p cover = All (IsClosedBranch p (root p)) (boxes_left_out cover)

-- the box is such a branch of each problem whose cover this is
abbrev pub IsClosedIn : List Item → Box → Type 0
IsClosedIn cover box = (p : Problem) → IsWellFormed p → cover ≡ outline p → IsClosedBranch p (root p) box

-- and it is a box of each such problem
abbrev pub IsForIn : List Item → Tracked → Type 0
IsForIn cover boxed = (p : Problem) → IsWellFormed p → cover ≡ outline p → IsFor p boxed

-- ---- filling

-- the lines are the cover's, with those of the lists in the places of the branches
abbrev pub IsFilled : {A B : Type 0} → List Item → List (Vec Line A) → Vec Line B → Type 0
IsFilled cover lists lines = map line_of lines.items ≡ filled cover (each_seen lists)

-- the lines refute the root, if each list refutes its branch
abbrev pub RefutesRoot : {A B : Type 0} → List Item → List (Vec Line A) → Vec Line B → Type 0
RefutesRoot cover lists lines =
    (p : Problem) → cover ≡ outline p → RefuteBranches p (each_seen lists) → IsRefutedBy p (root p) (map line_of lines.items)

-- the lines are the canonical ones of the root, if each list has the canonical lines of its branch
abbrev pub IsCanonicalInRoot : {A B : Type 0} → List Item → List (Vec Line A) → Vec Line B → Type 0
IsCanonicalInRoot cover lists lines =
    (p : Problem) → cover ≡ outline p → AreCanonicalForBranches p (each_seen lists) → HasCanonicalLines p (root p) (map line_of lines.items)

-- the lines are the cover's up to the last list, with those of the lists in
-- the places of the first branches
abbrev pub IsFilledUpTo : {A B : Type 0} → List Item → List (Vec Line A) → Vec Line B → Type 0
IsFilledUpTo cover lists lines = map line_of lines.items ≡ filled_up_to cover (each_seen lists)

-- the lines are the canonical ones of the root that lead to a map, if the lists lead to that map in
-- the first branches
abbrev pub LeadsToMapInRoot : {A B : Type 0} → List Item → List (Vec Line A) → Vec Line B → Type 0
LeadsToMapInRoot cover lists lines =
    (p : Problem) (m : List ℕ) → cover ≡ outline p → LeadToMap p m (split p) (each_seen lists)
    → HasCanonicalMap p m (root p) (map line_of lines.items)
