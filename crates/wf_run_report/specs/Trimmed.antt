-- What follows from a run that writes a shorter report, in the field's words.
use Rattle.std.specs.Prelude.{◌≡◌, ◌≤◌, ℕ, List, length, Option, Result, Ok}
use Rattle.wf_model.specs.Limits.{most_bytes}
use Rattle.wf_model.specs.Task.{Task}
use Rattle.wf_model.specs.Report.{Body, report_about, report_of}
use Rattle.wf_base.specs.Streams.Seen.{Reading, Writing}
use Rattle.wf_base.specs.Streams.Texts.{Wrote}
use Rattle.wf_report_check.specs.Truth.{HoldsOf}
use Rattle.wf_run_verify.specs.declared.outcome.Accepted.{Accepted}
use Rattle.wf_run.specs.declared.fault.RunFault.{RunFault}
use Rattle.wf_run.specs.Texts.{text_of_report}
use Rattle.wf_run_verify.specs.Verify.{ChecksText, accepted_of}
use Rattle.wf_run_verify.specs.Headline.{AreAsked, GaveTruth}
use Rattle.wf_run_verify.specs.Laws.{Accepts}
use Rattle.wf_run.specs.Laws.{IsChecked}
use Rattle.wf_run_report.specs.Trimming.{IsShorter, Trims}

-- what a check answers about a text, for the rounds that are asked for, if any are: that this
-- answer is accepted, or memory ran out
abbrev pub IsAcceptedText : Task → ℕ → Body → List ℕ → Type 0
IsAcceptedText t r body text =
    (rounds : Option ℕ) (answer : Result (Accepted × List ℕ) RunFault) → AreAsked rounds r → ChecksText most_bytes rounds t text answer
    → Accepts (accepted_of body) answer

-- The text of the report with this answer about a task and its r rounds: it is true, has at most as
-- many bytes as a text may have, is read as that report, and a check of it accepts it.
pub record IsGoodText (t : Task) (r : ℕ) (body : Body) (text : List ℕ) : Type 0 where
  pub text_is : text ≡ text_of_report t r body
  pub holds : HoldsOf t r body
  pub few_bytes : length text ≤ most_bytes
  pub read : report_of text ≡ Ok (report_about t r body)
  pub accepted : IsAcceptedText t r body text

-- Where a trimming ends well, it was given a report that is true, and the sink took such a text
-- about the same task and rounds, with the same answer and some of the lines.
abbrev pub TrimmedReportsAreAccepted : Type 0
TrimmedReportsAreAccepted =
    (task task' reports reports' : Reading) (sink sink' : Writing)
    → Trims task task' reports reports' sink sink' (Ok tt)
    → (t : Task) × (r : ℕ) × (body shorter : Body) × (text : List ℕ) × GaveTruth task task' reports reports' t r body
    × IsShorter body shorter × IsGoodText t r shorter text × Wrote sink sink' text

abbrev pub TrimmingIsCounted : Type 0
TrimmingIsCounted =
    (task task' reports reports' : Reading) (sink sink' : Writing) (result : Result (Unit {0}) RunFault)
    → Trims task task' reports reports' sink sink' result → IsChecked most_bytes task task' reports reports' sink sink' result
