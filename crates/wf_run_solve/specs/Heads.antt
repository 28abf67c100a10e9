-- What is asked of a task, before it is answered.
use Rattle.std.specs.Prelude.{◌≡◌, ℕ, Result, Ok, Err}
use Rattle.wf_model.specs.Task.{Task, IsTask}
use Rattle.wf_model.specs.Problem.{Problem, problem_of}
use Rattle.wf_report.specs.declared.report.Header.{Header}
use Rattle.wf_report.specs.Reports.{IsHeaderOf}
use Rattle.wf_run.specs.Run.{HasComplex, IsBeyondLimits}
use Rattle.wf_run.specs.declared.fault.RunFault.{RunFault}

-- the header of the report about a task and its r rounds, whatever answer it has
pub record IsHead (t : Task) (r : ℕ) (header : Header) : Type 0 where
  pub task : IsTask t
  pub about : IsHeaderOf t r header

-- the header of the report, and the problem to solve; or why the task has no answer for r rounds
abbrev pub Poses : Task → ℕ → Result (Header × Problem) RunFault → Type 0
Poses t r (Ok posed) = HasComplex t r × IsHead t r posed.0 × (posed.1 ≡ problem_of t r)
Poses t r (Err e) = IsBeyondLimits t r e
