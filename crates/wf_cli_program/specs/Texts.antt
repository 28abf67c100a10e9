-- The runs that write a text of a task after some rounds.
use Rattle.std.specs.Prelude.{ℕ, List, [], Result}
use Rattle.wf_model.specs.Task.{Task}
use Rattle.wf_model.specs.PointsText.{points_text}
use Rattle.wf_base.specs.Streams.Seen.{Reading, Writing}
use Rattle.wf_run.specs.Run.{Asks, Ran}
use Rattle.wf_run.specs.Texts.{IsTextOf}
use Rattle.wf_run.specs.declared.fault.RunFault.{RunFault}

-- the points in words, without a map
abbrev pub undecided_points : Task → ℕ → List ℕ
undecided_points t r = points_text t r []

-- such a text about the source's task and its r rounds was written: a list of points or executions,
-- or a question
abbrev pub Lists : (Task → ℕ → List ℕ) → ℕ → Reading → Reading → Writing → Writing → Result (Unit {0}) RunFault → Type 0
Lists text_of r source source' sink sink' result = Ran (Asks (IsTextOf text_of) r source source') sink sink' result
