-- Laws of closing: what it keeps, what it leaves, and that closing again changes nothing.
use Rattle.std.specs.Prelude.{◌≡◌, true, ℕ, List, [], Some, None, map, slice_index}
use Rattle.std.specs.List.{slice_get}
use Rattle.wf_model.specs.Lists.{has}
use Rattle.wf_model.specs.Problem.{Problem, Constraint, InRange, IsSolution, IsWellFormed}
use Rattle.wf_model.specs.Box.{Box, LiesIn, candidates, first_open, first_empty, is_supported_in}
use Rattle.wf_model.specs.Closing.{closing, sweep, keeps}
use Rattle.wf_model.specs.Laws.{IsBoxOf, IsClosedBranch}

-- a solution of a box lies in what closing leaves of it
abbrev pub ClosingKeepsSolutions : Type 0
ClosingKeepsSolutions = (p : Problem) (box : Box) (m : List ℕ)
    → InRange p → IsSolution p m → LiesIn m box
    → (b : Box) × ((closing p box).left ≡ Some b) × LiesIn m b

-- what closing leaves of a box is a box within it, in which a sweep loses nothing and every point
-- has a candidate
abbrev pub ClosingLeavesAClosedBox : Type 0
ClosingLeavesAClosedBox = (p : Problem) (box b : Box)
    → IsBoxOf p box → (closing p box).left ≡ Some b → IsClosedBranch p box b

-- each candidate is supported in each execution, wherever its point stands, if a sweep loses
-- nothing
abbrev pub ClosedBoxesSupportTheirCandidates : Type 0
ClosedBoxesSupportTheirCandidates = (p : Problem) (box : Box) (execution place process point a : ℕ)
    (k : Constraint)
    → (sweep p box).lines ≡ []
    → slice_get p.constraints execution ≡ Some k
    → slice_get k.scope place ≡ Some (process, point)
    → has (candidates box point) a ≡ true
    → is_supported_in k box place a ≡ true

-- closing a closed box writes no line and leaves the box
abbrev pub ClosingAClosedBoxChangesNothing : Type 0
ClosingAClosedBoxChangesNothing = (p : Problem) (box : Box)
    → (sweep p box).lines ≡ [] → first_empty box ≡ None → closing p box ≡ keeps box

-- a closed box with one candidate at each point is a solution
abbrev pub ClosedBoxesOfSingleCandidatesAreSolutions : Type 0
ClosedBoxesOfSingleCandidatesAreSolutions = (p : Problem) (box b : Box)
    → IsWellFormed p → IsClosedBranch p box b → first_open b ≡ None
    → IsSolution p (map (λ set. slice_index set 0) b)
