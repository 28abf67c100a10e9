-- The formula of a task has a model exactly where the task has a decision map.
use Rattle.std.proofs.Common.{◌≡◌, ◌↔◌, ℕ, ◌*◌, ◌<◌, ◌≤◌, true, List, map, flat_map, length, All, sym, ap, ◌∙◌, subst}
use Rattle.std.specs.List.{AllByRecursion}
use Rattle.std.proofs.lemmas.List.{length-map, get_or-map}
use Rattle.std.proofs.lemmas.List.Elements.{recursion_from_All, All-from_recursion}
use Rattle.wf_model.specs.Lists.{below, has}
use Rattle.wf_model.specs.View.{View}
use Rattle.wf_model.specs.Task.{Task, IsTask, IsRule}
use Rattle.wf_model.specs.Execution.{Execution, executions, last_views}
use Rattle.wf_model.specs.Points.{points}
use Rattle.wf_model.specs.DecisionMap.{IsDecisionMap, HasNoDecisionMap, listed}
use Rattle.wf_model.specs.Problem.{Problem, Constraint, Participant, IsWellFormed, problem_of, constraint_of, map_by_number}
use Rattle.wf_model.proofs.Lemmas.{weaker, listed_solves, solution_decides, each_append, each_map, each_flat, lies_in_root, task_listed, task_well_formed, each_execution_with, last_processes, scope_processes}
use Rattle.wf_sat_text.specs.Clauses.Formula.{Assignment, Clause, Literal, pos, neg, IsModel, HasModel, IsUnsatisfiable, NamesItsVariables, variable_of}
use Rattle.wf_sat_formula.specs.Patterns.{Entry, Pattern, is_forbidden, minimal_patterns}
use Rattle.wf_sat_formula.specs.Encoding.{variable, at_least_one, point_at, denied, clauses_of, formula_of, question, map_in, stating}
use Rattle.wf_sat_formula.specs.Laws.{HasFullTuples, HasDecisionMap}
use Rattle.wf_sat_formula.proofs.Members.{each_below, has_each}
use Rattle.wf_sat_formula.proofs.MinimalPatterns.{IsEntry, each_minimal}
use Rattle.wf_sat_formula.proofs.Variables.{variable_listed}
use Rattle.wf_sat_formula.proofs.Models.{gives_solution}
use Rattle.wf_sat_formula.proofs.Maps.{is_model}

-- ---- tuples are as long as executions

IsFull : Constraint → Type 0
IsFull k = All (λ tuple. length tuple ≡ length k.scope) k.tuples

full_at : (t : Task) (ps : List View) (e : Execution) → IsRule t.outputs e.rule → AllByRecursion (λ w. length w ≡ length e.rule.input) e.words → IsFull (constraint_of t ps e)
unfolding IsFull
full_at t ps e rule long =
    let scope = (constraint_of t ps e).scope in
    let as_long : length scope ≡ length e.rule.input =
    sym (length-map scope (λ (at : Participant). at.0)) ∙ ap length (scope_processes t ps (last_views e) ∙ last_processes e long) ∙ length-map e.rule.input (λ v. v.0) in
    subst (λ n. All (λ tuple. length tuple ≡ n) e.rule.tuples) (sym as_long) rule.long

pub task_full : (t : Task) (r : ℕ) → IsTask t → HasFullTuples (problem_of t r)
unfolding IsFull
task_full t r task =
    All-from_recursion _ (problem_of t r).constraints (each_map IsFull (constraint_of t (points t r)) (executions t r)
    (each_execution_with (λ e. IsFull (constraint_of t (points t r) e)) t r (IsRule t.outputs) (recursion_from_All _ t.delta task.decision.rules)
    (λ e rule long. full_at t (points t r) e rule long)))

-- ---- the literals are on the variables

module _ (p : Problem) (well : IsWellFormed p) where
  IsListed : Literal → Type 0
  IsListed l = (1 ≤ variable_of l) × (variable_of l ≤ p.points * length p.values)

  Lists : Clause → Type 0
  Lists clause = All IsListed clause

  point_lists : (v : ℕ) → v < p.points → Lists (at_least_one p.values v)
  unfolding Lists IsListed
  point_lists v low =
      All-from_recursion _ (at_least_one p.values v) (each_map (λ l. (1 ≤ variable_of l) × (variable_of l ≤ p.points * length p.values)) (λ a. pos (variable p.values v a)) p.values
      (weaker (λ x. has p.values x ≡ true) (λ x. (1 ≤ variable p.values v x) × (variable p.values v x ≤ p.points * length p.values))
      (λ x h. variable_listed p.values p.points v x h low) p.values (has_each p.values)))

  denied_lists : (scope : List Participant) → All (λ at. at.1 < p.points) scope → (q : Pattern) → AllByRecursion (IsEntry (length scope) p.values) q → Lists (denied p.values scope q)
  unfolding Lists IsListed
  denied_lists scope inside q h =
      All-from_recursion _ (denied p.values scope q) (each_map (λ l. (1 ≤ variable_of l) × (variable_of l ≤ p.points * length p.values)) (λ (e : Entry). neg (variable p.values (point_at scope e.0) e.1)) q
      (weaker (IsEntry (length scope) p.values) (λ e. (1 ≤ variable p.values (point_at scope e.0) e.1) × (variable p.values (point_at scope e.0) e.1 ≤ p.points * length p.values))
      (λ e k. variable_listed p.values p.points (point_at scope e.0) e.1 k.1
      (subst (λ v. v < p.points) (sym (get_or-map (λ (at : Participant). at.1) scope e.0 (0, 0) 0 k.0)) (inside e.0 (0, 0) k.0))) q h))

  pub names_variables : NamesItsVariables (formula_of p)
  unfolding Lists IsListed
  names_variables =
      All-from_recursion _ (formula_of p).clauses (each_append Lists (map (at_least_one p.values) (below p.points)) (flat_map (clauses_of p.values) p.constraints)
      (each_map Lists (at_least_one p.values) (below p.points) (weaker (λ v. v < p.points) (λ v. Lists (at_least_one p.values v)) point_lists (below p.points) (each_below p.points)))
      (each_flat Lists (clauses_of p.values) p.constraints (weaker (λ k. All (λ at. at.1 < p.points) k.scope) (λ k. AllByRecursion Lists (clauses_of p.values k))
      (λ k inside. each_map Lists (denied p.values k.scope) (minimal_patterns (length k.scope) p.values k.tuples)
      (weaker (λ q. AllByRecursion (IsEntry (length k.scope) p.values) q × (is_forbidden k.tuples q ≡ true)) (λ q. Lists (denied p.values k.scope q)) (λ q h. denied_lists k.scope inside q h.0)
      (minimal_patterns (length k.scope) p.values k.tuples) (each_minimal (length k.scope) p.values k.tuples)))
      p.constraints (recursion_from_All _ p.constraints well.in_range))))

-- ---- models and decision maps

pub model_decides : (t : Task) (r : ℕ) (a : Assignment) → IsTask t → IsModel a (question t r) → IsDecisionMap t r (map_by_number t r (map_in (problem_of t r) a))
model_decides t r a task model =
    solution_decides t r (map_in (problem_of t r) a) (gives_solution (problem_of t r) a (task_well_formed t r task) (task_full t r task) model)

pub map_states : (t : Task) (r : ℕ) (m : View → ℕ) → IsTask t → IsDecisionMap t r m → IsModel (stating (problem_of t r).values (listed t r m)) (question t r)
map_states t r m task decides =
    is_model (problem_of t r) (listed t r m) (task_well_formed t r task) (listed_solves t r m decides) (lies_in_root t r m (task_listed t task) decides)

pub exactly_where : (t : Task) (r : ℕ) → IsTask t → HasModel (question t r) ↔ HasDecisionMap t r
exactly_where t r task = (
  λ model. (map_by_number t r (map_in (problem_of t r) model.0), model_decides t r model.0 task model.1),
  λ decides. (stating (problem_of t r).values (listed t r decides.0), map_states t r decides.0 task decides.1),
)

pub unsatisfiable_where : (t : Task) (r : ℕ) → IsTask t → IsUnsatisfiable (question t r) ↔ HasNoDecisionMap t r
unsatisfiable_where t r task = (
  λ none m decides. none (stating (problem_of t r).values (listed t r m)) (map_states t r m task decides),
  λ none a model. none (map_by_number t r (map_in (problem_of t r) a)) (model_decides t r a task model),
)
