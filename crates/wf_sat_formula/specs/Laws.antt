-- Laws of the formula of a task: its models and the task's decision maps.
use Rattle.std.specs.Prelude.{◌≡◌, ◌↔◌, ℕ, List, length, All}
use Rattle.wf_model.specs.Task.{Task, IsTask}
use Rattle.wf_model.specs.View.{View}
use Rattle.wf_model.specs.DecisionMap.{IsDecisionMap, HasNoDecisionMap, listed}
use Rattle.wf_model.specs.Problem.{Problem, IsSolution, IsWellFormed, problem_of, map_by_number}
use Rattle.wf_model.specs.Box.{LiesIn, root}
use Rattle.wf_sat_text.specs.Clauses.Formula.{Assignment, IsModel, HasModel, IsUnsatisfiable, NamesItsVariables}
use Rattle.wf_sat_formula.specs.Encoding.{formula_of, question, map_in, stating}

-- each tuple has a value for each place
abbrev pub HasFullTuples : Problem → Type 0
HasFullTuples p = All (λ k. All (λ tuple. length tuple ≡ length k.scope) k.tuples) p.constraints

-- some function on the views is a decision map
abbrev pub HasDecisionMap : Task → ℕ → Type 0
HasDecisionMap t r = (m : View → ℕ) × IsDecisionMap t r m

-- the literals of a problem's formula are on its variables
abbrev pub FormulasNameTheirVariables : Type 0
FormulasNameTheirVariables = (p : Problem) → IsWellFormed p → NamesItsVariables (formula_of p)

-- the values that a model of a problem's formula gives are a solution
abbrev pub ModelsAreSolutions : Type 0
ModelsAreSolutions = (p : Problem) (a : Assignment)
    → IsWellFormed p → HasFullTuples p → IsModel a (formula_of p) → IsSolution p (map_in p a)

-- what states a solution is a model of the problem's formula
abbrev pub SolutionsAreModels : Type 0
SolutionsAreModels = (p : Problem) (m : List ℕ)
    → IsWellFormed p → IsSolution p m → LiesIn m (root p) → IsModel (stating p.values m) (formula_of p)

-- a model of a task's formula, read by the numbers of the points, is a decision map
abbrev pub ModelsAreDecisionMaps : Type 0
ModelsAreDecisionMaps = (t : Task) (r : ℕ) (a : Assignment)
    → IsTask t → IsModel a (question t r) → IsDecisionMap t r (map_by_number t r (map_in (problem_of t r) a))

-- what states the values of a decision map is a model of the task's formula
abbrev pub DecisionMapsAreModels : Type 0
DecisionMapsAreModels = (t : Task) (r : ℕ) (m : View → ℕ)
    → IsTask t → IsDecisionMap t r m → IsModel (stating (problem_of t r).values (listed t r m)) (question t r)

-- the formula of a task has a model exactly where the task has a decision map
abbrev pub FormulaHasAModelExactlyWhereThereIsADecisionMap : Type 0
FormulaHasAModelExactlyWhereThereIsADecisionMap = (t : Task) (r : ℕ)
    → IsTask t → HasModel (question t r) ↔ HasDecisionMap t r

-- the formula of a task is unsatisfiable exactly where no function on the views is a decision map
abbrev pub FormulaIsUnsatisfiableExactlyWhereThereIsNoDecisionMap : Type 0
FormulaIsUnsatisfiableExactlyWhereThereIsNoDecisionMap = (t : Task) (r : ℕ)
    → IsTask t → IsUnsatisfiable (question t r) ↔ HasNoDecisionMap t r
