-- Laws of the formula in a box, and of the questions of the branches of a task.
use Rattle.std.specs.Prelude.{◌≡◌, ◌↔◌, ◌<◌, ℕ, List, length, All}
use Rattle.wf_model.specs.Lists.{below}
use Rattle.wf_model.specs.Task.{Task, IsTask}
use Rattle.wf_model.specs.View.{View}
use Rattle.wf_model.specs.DecisionMap.{HasNoDecisionMap, IsLeast, listed}
use Rattle.wf_model.specs.Problem.{Problem, IsSolution, IsWellFormed}
use Rattle.wf_model.specs.Box.{Box, LiesIn, root}
use Rattle.wf_model.specs.Laws.{LiesAt}
use Rattle.wf_sat_text.specs.Clauses.Formula.{Assignment, IsModel, HasModel, IsUnsatisfiable, NamesItsVariables}
use Rattle.wf_sat_formula.specs.Encoding.{map_in, stating}
use Rattle.wf_sat_formula.specs.Laws.{HasFullTuples}
use Rattle.wf_sat_formula.specs.Branches.{branches, branch_question, formula_in}

-- a solution of the problem that lies in the root and in the box
pub record IsSolutionIn (p : Problem) (box : Box) (m : List ℕ) : Type 0 where
  pub solves : IsSolution p m
  pub listed : LiesIn m (root p)
  pub lies : LiesIn m box

abbrev pub HasSolutionIn : Problem → Box → Type 0
HasSolutionIn p box = (m : List ℕ) × IsSolutionIn p box m

-- the literals of a problem's formula in a box are on its variables
abbrev pub FormulasInABoxNameTheirVariables : Type 0
FormulasInABoxNameTheirVariables = (p : Problem) (box : Box) → IsWellFormed p → NamesItsVariables (formula_in p box)

-- the values that a model of a problem's formula in a box gives are a solution there
abbrev pub ModelsInABoxAreSolutionsThere : Type 0
ModelsInABoxAreSolutionsThere = (p : Problem) (box : Box) (a : Assignment)
    → IsWellFormed p → HasFullTuples p → length box ≡ p.points → IsModel a (formula_in p box)
    → IsSolutionIn p box (map_in p a)

-- what states a solution in a box is a model of the problem's formula there
abbrev pub SolutionsInABoxAreModelsThere : Type 0
SolutionsInABoxAreModelsThere = (p : Problem) (box : Box) (m : List ℕ)
    → IsWellFormed p → IsSolutionIn p box m → IsModel (stating p.values m) (formula_in p box)

-- the formula of a problem in a box has a model exactly where a solution lies in the box
abbrev pub FormulaInABoxHasAModelExactlyWhereASolutionLiesThere : Type 0
FormulaInABoxHasAModelExactlyWhereASolutionLiesThere = (p : Problem) (box : Box)
    → IsWellFormed p → HasFullTuples p → length box ≡ p.points → HasModel (formula_in p box) ↔ HasSolutionIn p box

-- the questions of all branches are unsatisfiable exactly where no function
-- on the views is a decision map
abbrev pub BranchesAreUnsatisfiableExactlyWhereThereIsNoDecisionMap : Type 0
BranchesAreUnsatisfiableExactlyWhereThereIsNoDecisionMap = (t : Task) (r : ℕ)
    → IsTask t → All (λ i. IsUnsatisfiable (branch_question t r i)) (below (length (branches t r))) ↔ HasNoDecisionMap t r

-- the least decision map lies in the first branch whose question has a model
abbrev pub LeastDecisionMapLiesInTheFirstBranchWithAModel : Type 0
LeastDecisionMapLiesInTheFirstBranchWithAModel = (t : Task) (r i : ℕ)
    → IsTask t → i < length (branches t r)
    → ((j : ℕ) → j < i → IsUnsatisfiable (branch_question t r j)) → HasModel (branch_question t r i)
    → (m : View → ℕ) × IsLeast t r m × LiesAt (listed t r m) (branches t r) i
