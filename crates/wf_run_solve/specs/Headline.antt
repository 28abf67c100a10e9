-- What a search answers, and of which bytes: in the field's words alone.
use Rattle.std.specs.Prelude.{◌≡◌, ℕ, List, Ok}
use Rattle.wf_model.specs.Task.{Task}
use Rattle.wf_model.specs.View.{View}
use Rattle.wf_model.specs.DecisionMap.{HasNoDecisionMap, IsLeast, listed}
use Rattle.wf_model.specs.Refutation.{Line}
use Rattle.wf_base.specs.Streams.Seen.{Reading, Writing}
use Rattle.wf_base.specs.Streams.Texts.{Wrote}
use Rattle.wf_base.specs.declared.lines.form.Form.{Form}
use Rattle.wf_run_solve.specs.declared.outcome.Outcome.{Outcome}
use Rattle.wf_run_solve.specs.declared.outcome.Outcome.TheVariants.{Map, Nothing}
use Rattle.wf_run_solve.specs.Texts.{Finds, body_of_map, body_of_none}
use Rattle.wf_run.specs.Texts.{text_of_report}
use Rattle.wf_run.specs.Given.{GaveTask}

-- The text is the report of the least decision map, in the least form with
-- lines; or a report that there is none, in the verdict form without lines,
-- and then no function on the views is a decision map.
abbrev pub Says : Form → Task → ℕ → Outcome → List ℕ → Type 0
Says form t r Map text =
    (m : View → ℕ) × IsLeast t r m × ((ls : List Line) × (text ≡ text_of_report t r (body_of_map form (listed t r m) ls)))
Says form t r Nothing text = HasNoDecisionMap t r × ((ls : List Line) × (text ≡ text_of_report t r (body_of_none form ls)))

-- a search ends well only if the source gave the bytes of a task, and the sink took, whole, a text
-- that is true of the task
abbrev pub AnswersAreTrue : Type 0
AnswersAreTrue =
    (rounds : ℕ) (form : Form) (source source' : Reading) (sink sink' : Writing) (found : Outcome)
    → Finds rounds form source source' sink sink' (Ok found)
    → (t : Task) × (text : List ℕ) × GaveTask source source' t × Says form t rounds found text × Wrote sink sink' text
