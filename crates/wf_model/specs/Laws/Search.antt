-- Laws of the canonical search: its steps, and what its answers mean.
use Rattle.std.specs.Prelude.{◌≡◌, ℕ, List, None, Some}
use Rattle.wf_model.specs.Task.{Task, IsTask}
use Rattle.wf_model.specs.DecisionMap.{IsLeast, HasNoDecisionMap}
use Rattle.wf_model.specs.Problem.{Problem, IsWellFormed, map_by_number}
use Rattle.wf_model.specs.Box.{Box}
use Rattle.wf_model.specs.Closing.{canonical, canonical_answer, closing, searched, branching}
use Rattle.wf_model.specs.Laws.{IsBoxOf, IsLeastIn, IsRefutedBy}

-- the canonical search closes the box, and then goes on in the branches of what is left
abbrev pub CanonicalSearchGoesBySteps : Type 0
CanonicalSearchGoesBySteps = (p : Problem) (box : Box)
    → canonical p box
    ≡ searched (closing p box).lines (closing p box).left (branching (canonical p))

-- the canonical search that finds no map writes the lines of a tree that refutes the box
abbrev pub CanonicalSearchRefutes : Type 0
CanonicalSearchRefutes = (p : Problem) (box : Box)
    → (canonical p box).map ≡ None → IsRefutedBy p box (canonical p box).lines

-- a map that the canonical search finds is the least solution in the box
abbrev pub CanonicalMapIsTheLeastSolution : Type 0
CanonicalMapIsTheLeastSolution = (p : Problem) (box : Box) (m : List ℕ)
    → IsWellFormed p → IsBoxOf p box → (canonical p box).map ≡ Some m → IsLeastIn p box m

-- a map that the canonical search of a task's root finds is, by the numbers of the points, the
-- least of all decision maps
abbrev pub CanonicalMapIsTheLeastMap : Type 0
CanonicalMapIsTheLeastMap = (t : Task) (r : ℕ) (m : List ℕ)
    → IsTask t → (canonical_answer t r).map ≡ Some m → IsLeast t r (map_by_number t r m)

-- no function on the views is a decision map, if the canonical search of a task's root finds none
abbrev pub CanonicalSearchLeavesNoMap : Type 0
CanonicalSearchLeavesNoMap = (t : Task) (r : ℕ)
    → IsTask t → (canonical_answer t r).map ≡ None → HasNoDecisionMap t r

-- a box has at most one least solution
abbrev pub BoxHasOneLeastSolution : Type 0
BoxHasOneLeastSolution = (p : Problem) (box : Box) (m n : List ℕ)
    → IsLeastIn p box m → IsLeastIn p box n → m ≡ n
