-- What a clause sees of a protocol complex, and of which task and rounds it is one.
use Rattle.std.specs.Prelude.{◌≡◌, ◌<◌, ◌≤◌, ℕ, List, [], ◌∷◌, map, flat_map, length, Option, None, Some, Result, Ok, Err, ◌==◌, if◌then◌else◌}
use Rattle.std.specs.List.{enumerate_from}
use Rattle.wf_model.specs.Limits.{most_executions, most_rounds}
use Rattle.wf_model.specs.Task.{Task, IsTask, first_block}
use Rattle.wf_model.specs.View.{View}
use Rattle.wf_model.specs.Execution.{executions_on, executions}
use Rattle.wf_model.specs.Points.{points, last_view_count, first_appearances}
use Rattle.wf_model.specs.Problem.{Participant, problem_of}
use Rattle.wf_complex.specs.Packed.{four_of}
use Rattle.wf_complex.specs.declared.packed.PackedExecution.{PackedExecution}
use Rattle.wf_complex.specs.declared.fault.BuildFault.{BuildFault}
use Rattle.wf_complex.specs.declared.fault.BuildFault.TheVariants.{Rounds, TooManyExecutions, OutOfMemory}

-- what a clause sees of a protocol complex
pub record Built : Type 0 where
  pub rounds : ℕ
  pub table : List View  -- the views by their numbers
  pub points : List View  -- the class of each point
  pub view_count : ℕ  -- how many different last views there are
  pub firsts : List (ℕ × ℕ)  -- for each point the execution and the process in which it appears first
  pub simplices : List ℕ  -- for each execution the number of its input simplex
  pub scopes : List (List Participant)  -- those of each execution

-- the number of the input simplex of each execution
abbrev pub simplices_of : Task → ℕ → List ℕ
simplices_of t r = flat_map (λ at. map (λ e. at.0) (executions_on (first_block t) r at.1)) (enumerate_from 0 t.delta)

-- the protocol complex of this task after r rounds
pub record IsProtocol (t : Task) (r : ℕ) (b : Built) : Type 0 where
  pub task : IsTask t
  pub rounds_are : b.rounds ≡ r
  pub points_are : b.points ≡ points t r
  pub views_are : b.view_count ≡ last_view_count t r
  pub firsts_are : b.firsts ≡ map (λ a. (a.execution, a.process)) (first_appearances t r)
  pub simplices_are : b.simplices ≡ simplices_of t r
  pub scopes_are : b.scopes ≡ map (λ k. k.scope) (problem_of t r).constraints

-- what building answers: too many rounds first, then too many executions, and
-- else the complex, unless memory ran out
abbrev pub Builds : Task → ℕ → Result Built BuildFault → Type 0
Builds t r (Ok b) = (r ≤ most_rounds) × (length (executions t r) ≤ most_executions) × IsProtocol t r b
Builds t r (Err Rounds) = most_rounds < r
Builds t r (Err TooManyExecutions) = (r ≤ most_rounds) × (most_executions < length (executions t r))
Builds t r (Err OutOfMemory) = (r ≤ most_rounds) × (length (executions t r) ≤ most_executions)

-- the point of a process in an execution, if it takes part
abbrev pub point_in : ℕ → List Participant → Option ℕ
point_in c [] = None
point_in c (at ∷ scope) = if at.0 == c then Some at.1 else point_in c scope

-- each execution is packed: its input simplex, and its points, the first of them again up to four
pub record ArePacked (b : Built) (es : List PackedExecution) : Type 0 where
  pub long : length es ≡ length b.scopes
  pub simplices : map (λ e. e.simplex) es ≡ b.simplices
  pub points : map (λ e. e.points) es ≡ map (λ scope. four_of (map (λ at. at.1) scope)) b.scopes
