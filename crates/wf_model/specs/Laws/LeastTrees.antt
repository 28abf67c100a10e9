-- Laws of least trees: that they lead to the least solution, that the canonical search writes one
-- if it finds a map, and that a checker finds no fault exactly in their lines.
use Rattle.std.specs.Prelude.{◌≡◌, ℕ, List, [], ◌∷◌, length, Some, None}
use Rattle.wf_model.specs.Task.{Task, IsTask}
use Rattle.wf_model.specs.DecisionMap.{IsLeast}
use Rattle.wf_model.specs.Problem.{Problem, InRange, IsWellFormed, IsSolution, problem_of}
use Rattle.wf_model.specs.Problem.{map_by_number}
use Rattle.wf_model.specs.Box.{Box, IsAscendingBox, root}
use Rattle.wf_model.specs.Refutation.{Line, Tree, lines}
use Rattle.wf_model.specs.Closing.{canonical}
use Rattle.wf_model.specs.LeastTree.{IsLeastTree}
use Rattle.wf_model.specs.Laws.{IsBoxOf, IsLeastIn}
use Rattle.wf_model.specs.Check.{first_least_fault}

-- a solution to which a tree leads is the least one in the tree's box, where candidates ascend
abbrev pub LeastTreeHasTheLeastSolution : Type 0
LeastTreeHasTheLeastSolution = (p : Problem) (box : Box) (m : List ℕ) (t : Tree)
    → InRange p → IsAscendingBox box → IsSolution p m → IsLeastTree p m t box → IsLeastIn p box m

-- a solution of a task's problem to which a tree leads from the root is, by the numbers of the
-- points, the least of all decision maps
abbrev pub LeastTreeLeadsToTheLeastMap : Type 0
LeastTreeLeadsToTheLeastMap = (t : Task) (r : ℕ) (m : List ℕ) (tree : Tree)
    → IsTask t → IsSolution (problem_of t r) m
    → IsLeastTree (problem_of t r) m tree (root (problem_of t r))
    → IsLeast t r (map_by_number t r m)

-- the canonical search that finds a map writes the lines of a tree that leads to that map
abbrev pub CanonicalLinesLeadToTheMap : Type 0
CanonicalLinesLeadToTheMap = (p : Problem) (box : Box) (m : List ℕ)
    → IsAscendingBox box → (canonical p box).map ≡ Some m
    → (t : Tree) × (lines t ≡ (canonical p box).lines) × IsLeastTree p m t box

-- lines that the checker finds no fault in are those of a tree that leads to the map
abbrev pub AcceptedLeastLinesLeadToTheMap : Type 0
AcceptedLeastLinesLeadToTheMap = (p : Problem) (box : Box) (m : List ℕ) (k : ℕ) (ls : List Line)
    → IsBoxOf p box → first_least_fault p m k ls (box ∷ []) ≡ None
    → (t : Tree) × (lines t ≡ ls) × IsLeastTree p m t box

-- the checker finds no fault in the lines of any tree that leads to the map
abbrev pub LinesOfALeastTreeAreAccepted : Type 0
LinesOfALeastTreeAreAccepted = (p : Problem) (box : Box) (m : List ℕ) (k : ℕ) (t : Tree)
    → IsWellFormed p → length box ≡ p.points → IsLeastTree p m t box
    → first_least_fault p m k (lines t) (box ∷ []) ≡ None
