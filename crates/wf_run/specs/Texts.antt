-- The texts that follow from a task and its rounds.
use Rattle.std.specs.Prelude.{◌≡◌, ℕ, List}
use Rattle.wf_model.specs.Task.{Task}
use Rattle.wf_model.specs.Report.{Body, report_text, report_about}

-- the text of the report with this answer about a task and its r rounds
unfoldable pub text_of_report : Task → ℕ → Body → List ℕ
text_of_report t r body = report_text (report_about t r body)

-- the text that a task and its r rounds have
abbrev pub IsTextOf : (Task → ℕ → List ℕ) → Task → ℕ → Unit {0} → List ℕ → Type 0
IsTextOf text_of t r answer text = text ≡ text_of t r
