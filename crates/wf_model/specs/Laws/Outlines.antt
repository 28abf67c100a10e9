-- Laws of outlines: they leave out the branches, and are filled with refutations of these.
use Rattle.std.specs.Prelude.{◌≡◌, ◌≤◌, ℕ, List, length}
use Rattle.wf_model.specs.Problem.{Problem}
use Rattle.wf_model.specs.Box.{root}
use Rattle.wf_model.specs.Refutation.{Line}
use Rattle.wf_model.specs.Split.{most_branches, most_values, split}
use Rattle.wf_model.specs.Outline.{boxes_left_out, outline, filled, filled_up_to}
use Rattle.wf_model.specs.Laws.{IsRefutedBy, HasCanonicalLines, HasCanonicalMap}
use Rattle.wf_model.specs.Laws.{RefuteBranches, AreCanonicalForBranches, LeadToMap}

-- the boxes that the outline of a problem leaves out are the branches of the problem
abbrev pub OutlinesLeaveOutTheBranches : Type 0
OutlinesLeaveOutTheBranches = (p : Problem) → boxes_left_out (outline p) ≡ split p

-- a problem with at most 256 values has at most 63 times 256 branches
abbrev pub BranchesAreFew : Type 0
BranchesAreFew = (p : Problem) → length p.values ≤ most_values → length (split p) ≤ most_branches

-- an outline refutes the root, if it is filled with lists that refute the branches
abbrev pub FilledOutlinesRefute : Type 0
FilledOutlinesRefute = (p : Problem) (lists : List (List Line))
    → RefuteBranches p lists → IsRefutedBy p (root p) (filled (outline p) lists)

-- an outline has the canonical lines of the root, if it is filled with the canonical lines of the
-- branches
abbrev pub FilledOutlinesAreCanonical : Type 0
FilledOutlinesAreCanonical = (p : Problem) (lists : List (List Line))
    → AreCanonicalForBranches p lists → HasCanonicalLines p (root p) (filled (outline p) lists)

-- an outline that is filled up to the last of these lists has the lines of the canonical search of
-- the root, which leads to a map, if the lists lead to that map in the first branches
abbrev pub FilledOutlinesLeadToTheMap : Type 0
FilledOutlinesLeadToTheMap = (p : Problem) (m : List ℕ) (lists : List (List Line))
    → LeadToMap p m (split p) lists → HasCanonicalMap p m (root p) (filled_up_to (outline p) lists)
