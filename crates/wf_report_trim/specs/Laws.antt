-- Laws of lifted decision maps.
use Rattle.std.specs.Prelude.{◌≡◌, ◌<◌, ℕ, suc, ◌+◌, true, List, [], ◌∷◌, ◌++◌, map, length, All}
use Rattle.std.specs.List.{AllByRecursion}
use Rattle.wf_model.specs.Word.{Word}
use Rattle.wf_model.specs.Simplex.{is_simplex}
use Rattle.wf_model.specs.Task.{Task, Rule, IsTask}
use Rattle.wf_model.specs.View.{View}
use Rattle.wf_model.specs.Points.{class, execution_points, points}
use Rattle.wf_model.specs.DecisionMap.{IsDecisionMap, HasNoDecisionMap, listed}
use Rattle.wf_model.specs.Problem.{IsSolution, problem_of}
use Rattle.wf_report_trim.specs.Lift.{own_before, point_before, lifted, lifted_by, numbers_before, lifted_list}

-- the points before are those of the execution without its last word
abbrev pub ARoundMoreKeepsThePointsBefore : Type 0
ARoundMoreKeepsThePointsBefore = (t : Task) (rule : Rule) (ws : List Word) (w : Word)
    → is_simplex rule.input ≡ true → AllByRecursion (λ u. length u ≡ length rule.input) (ws ++ (w ∷ []))
    → map (point_before t) (execution_points t (record { rule = rule; words = ws ++ (w ∷ []) }))
    ≡ execution_points t (record { rule = rule; words = ws })

-- a decision map after r rounds gives one after r + 1
abbrev pub DecisionMapsLift : Type 0
DecisionMapsLift = (t : Task) (r : ℕ) (m : View → ℕ)
    → IsTask t → IsDecisionMap t r m → IsDecisionMap t (suc r) (lifted t m)

-- and so one after any more
abbrev pub DecisionMapsLiftByRounds : Type 0
DecisionMapsLiftByRounds = (t : Task) (r k : ℕ) (m : View → ℕ)
    → IsTask t → IsDecisionMap t r m → IsDecisionMap t (r + k) (lifted_by t k m)

-- a map that is the same on a view and its class, as any is where the task is
-- not symmetric, needs no ranks anew
abbrev pub MapsOfClassesLiftAsTheyAre : Type 0
MapsOfClassesLiftAsTheyAre = (t : Task) (r : ℕ) (m : View → ℕ)
    → IsTask t → ((v : View) → m (class t v) ≡ m v) → IsDecisionMap t r m → IsDecisionMap t (suc r) (λ v. m (own_before v))

-- no decision map exists after r rounds, if none exists after r + 1
abbrev pub NoDecisionMapBefore : Type 0
NoDecisionMapBefore = (t : Task) (r : ℕ) → IsTask t → HasNoDecisionMap t (suc r) → HasNoDecisionMap t r

-- the values of the lifted map, whatever the map, are the lifted list of the map's values
abbrev pub LiftedMapsAreListed : Type 0
LiftedMapsAreListed = (t : Task) (r : ℕ) (m : View → ℕ)
    → IsTask t → listed t (suc r) (lifted t m) ≡ lifted_list t r (listed t r m)

-- each point has a point before it
abbrev pub PointsBeforeArePoints : Type 0
PointsBeforeArePoints = (t : Task) (r : ℕ) → IsTask t → All (λ k. k < length (points t r)) (numbers_before t r)

-- a solution after r rounds gives one after r + 1
abbrev pub SolutionsLift : Type 0
SolutionsLift = (t : Task) (r : ℕ) (values : List ℕ)
    → IsTask t → IsSolution (problem_of t r) values → IsSolution (problem_of t (suc r)) (lifted_list t r values)
