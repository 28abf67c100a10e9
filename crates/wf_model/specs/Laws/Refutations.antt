-- Laws of refutations: that they are sound, and that a checker finds no fault exactly in their
-- lines.
use Rattle.std.specs.Prelude.{◌≡◌, ℕ, List, [], ◌∷◌, None}
use Rattle.wf_model.specs.Task.{Task, HasListedValues}
use Rattle.wf_model.specs.DecisionMap.{HasNoDecisionMap}
use Rattle.wf_model.specs.Problem.{Problem, InRange, IsWellFormed, IsSolution, problem_of}
use Rattle.wf_model.specs.Box.{Box, LiesIn, root}
use Rattle.wf_model.specs.Refutation.{Line, Tree, lines, Refutes}
use Rattle.wf_model.specs.Check.{first_fault}
use Rattle.wf_model.specs.Laws.{IsRefutedBy}

-- no tree refutes a box that holds a solution
abbrev pub NoTreeRefutesASolution : Type 0
NoTreeRefutesASolution = (p : Problem) (t : Tree) (box : Box) (m : List ℕ)
    → InRange p → Refutes p t box → IsSolution p m → LiesIn m box → ⊥

-- no function on the views is a decision map, if a tree refutes the root
abbrev pub RefutationLeavesNoMap : Type 0
RefutationLeavesNoMap = (t : Task) (r : ℕ) (refutation : Tree)
    → HasListedValues t → Refutes (problem_of t r) refutation (root (problem_of t r))
    → HasNoDecisionMap t r

-- lines that the checker finds no fault in are those of a tree that refutes the root
abbrev pub AcceptedLinesRefute : Type 0
AcceptedLinesRefute = (p : Problem) (k : ℕ) (ls : List Line)
    → first_fault p k ls (root p ∷ []) ≡ None → IsRefutedBy p (root p) ls

-- the checker finds no fault in the lines of any tree that refutes the root
abbrev pub RefutingLinesAreAccepted : Type 0
RefutingLinesAreAccepted = (p : Problem) (k : ℕ) (t : Tree)
    → IsWellFormed p → Refutes p t (root p) → first_fault p k (lines t) (root p ∷ []) ≡ None
