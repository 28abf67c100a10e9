-- Laws of decision maps: what they have in common with the solutions of a task's problem.
use Rattle.std.specs.Prelude.{◌≡◌, ◌↔◌, ℕ, List, None, Contains, map}
use Rattle.wf_model.specs.View.{View}
use Rattle.wf_model.specs.Task.{Task, IsTask, HasListedValues}
use Rattle.wf_model.specs.Points.{points, first_appearances}
use Rattle.wf_model.specs.DecisionMap.{IsDecisionMap, IsLeast, listed}
use Rattle.wf_model.specs.Problem.{Problem, IsSolution, IsLeastSolution, IsWellFormed, problem_of}
use Rattle.wf_model.specs.Problem.{map_by_number}
use Rattle.wf_model.specs.Box.{LiesIn, root}
use Rattle.wf_model.specs.Check.{map_fault}
use Rattle.wf_model.specs.AllSolutions.{all_solutions}

-- the values of a task's tuples occur in its output complex
abbrev pub TasksHaveListedValues : Type 0
TasksHaveListedValues = (t : Task) → IsTask t → HasListedValues t

-- the problem of a task, for any number of rounds, names its own points alone; its executions
-- have a place at least, and their processes ascend; and its values ascend
abbrev pub ProblemsOfTasksAreWellFormed : Type 0
ProblemsOfTasksAreWellFormed = (t : Task) (r : ℕ) → IsTask t → IsWellFormed (problem_of t r)

-- the points of where the points appear first are the points, in their order
abbrev pub FirstAppearancesAreThePoints : Type 0
FirstAppearancesAreThePoints = (t : Task) (r : ℕ)
    → map (λ a. a.point) (first_appearances t r) ≡ points t r

-- the list of a decision map's values is a solution
abbrev pub ListedMapsAreSolutions : Type 0
ListedMapsAreSolutions = (t : Task) (r : ℕ) (m : View → ℕ)
    → IsDecisionMap t r m → IsSolution (problem_of t r) (listed t r m)

-- a solution, read by the numbers of the points, is a decision map
abbrev pub SolutionsAreMapsByNumber : Type 0
SolutionsAreMapsByNumber = (t : Task) (r : ℕ) (values : List ℕ)
    → IsSolution (problem_of t r) values → IsDecisionMap t r (map_by_number t r values)

-- every decision map lies in the root, the box with every value at every point
abbrev pub MapsLieInTheRoot : Type 0
MapsLieInTheRoot = (t : Task) (r : ℕ) (m : View → ℕ)
    → HasListedValues t → IsDecisionMap t r m → LiesIn (listed t r m) (root (problem_of t r))

-- every solution of a task's problem lies in the root
abbrev pub SolutionsLieInTheRoot : Type 0
SolutionsLieInTheRoot = (t : Task) (r : ℕ) (values : List ℕ)
    → IsTask t → IsSolution (problem_of t r) values → LiesIn values (root (problem_of t r))

-- the least solution, read by the numbers of the points, is the least decision map
abbrev pub LeastSolutionIsTheLeastMap : Type 0
LeastSolutionIsTheLeastMap = (t : Task) (r : ℕ) (values : List ℕ)
    → IsLeastSolution (problem_of t r) values → IsLeast t r (map_by_number t r values)

-- trying each list of values finds the solutions in the root, and nothing else
abbrev pub AllSolutionsAreFound : Type 0
AllSolutionsAreFound = (p : Problem) (m : List ℕ)
    → Contains (all_solutions p) m ↔ (IsSolution p m × LiesIn m (root p))

-- a checker finds no fault in a list of values exactly where it is a solution
abbrev pub FaultlessMapsAreSolutions : Type 0
FaultlessMapsAreSolutions = (p : Problem) (m : List ℕ) → (map_fault p m ≡ None) ↔ IsSolution p m
