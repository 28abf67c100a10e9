-- Laws of ordered covers: what a list of boxes in order says of the maps in them.
use Rattle.std.specs.Prelude.{◌<◌, ℕ, List, [], length, All}
use Rattle.std.specs.List.{slice_index_or}
use Rattle.wf_model.specs.Lists.{IsBelow}
use Rattle.wf_model.specs.Problem.{Problem, IsSolution, IsWellFormed}
use Rattle.wf_model.specs.Box.{Box, LiesIn, root}
use Rattle.wf_model.specs.Split.{IsOrderedCover, split}
use Rattle.wf_model.specs.Laws.{IsLeastIn, IsClosedBranch, LiesAt, LiesInExactlyOne}

-- maps in two boxes of an ordered cover are in the order of the boxes
abbrev pub MapsOfACoverAreInOrder : Type 0
MapsOfACoverAreInOrder = (p : Problem) (box : Box) (boxes : List Box) (i j : ℕ) (m n : List ℕ)
    → IsOrderedCover p box boxes → i < j → LiesAt m boxes i → LiesAt n boxes j → IsBelow m n

-- a solution lies in exactly one box of an ordered cover
abbrev pub SolutionLiesInOneBoxOfACover : Type 0
SolutionLiesInOneBoxOfACover = (p : Problem) (box : Box) (boxes : List Box) (m : List ℕ)
    → IsOrderedCover p box boxes → IsSolution p m → LiesIn m box → LiesInExactlyOne m boxes

-- the least solution of the first box of an ordered cover that has one is the least of all
abbrev pub FirstMapOfACoverIsTheLeast : Type 0
FirstMapOfACoverIsTheLeast = (p : Problem) (box : Box) (boxes : List Box) (i : ℕ) (m : List ℕ)
    → IsOrderedCover p box boxes
    → i < length boxes → IsLeastIn p (slice_index_or boxes i []) m → LiesIn m box
    → ((j : ℕ) (n : List ℕ) → j < i → IsSolution p n → LiesAt n boxes j → ⊥)
    → IsLeastIn p box m

-- the branches of a problem are an ordered cover of the root
abbrev pub BranchesCoverTheRoot : Type 0
BranchesCoverTheRoot = (p : Problem) → IsWellFormed p → IsOrderedCover p (root p) (split p)

-- each branch of a problem is a closed box within the root, with a candidate at every point
abbrev pub BranchesAreClosed : Type 0
BranchesAreClosed = (p : Problem) → IsWellFormed p → All (IsClosedBranch p (root p)) (split p)
