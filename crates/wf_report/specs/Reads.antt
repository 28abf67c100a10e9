-- What is made of the lines ahead of a window, as the text goes on.
use Rattle.std.specs.Prelude.{◌≡◌, ◌<◌, ◌+◌, ℕ, true, List, [], ◌++◌, length, Result, Ok, Err}
use Rattle.wf_model.specs.Report as reports
use Rattle.wf_model.specs.Report.{lines_of}
use Rattle.wf_base.specs.Streams.Seen.{Reading}
use Rattle.wf_report.specs.declared.fault.CertFault.TheVariants as amiss
use Rattle.wf_report.specs.Limits.{most_report_lines}
use Rattle.wf_report.specs.Windows.{Ahead, Gives, IsCutOff, failed_calls}
use Rattle.wf_report.specs.declared.halt.ReadStop.{ReadStop}
use Rattle.wf_report.specs.declared.halt.ReadStop.TheVariants.{BadReport, SourceFailed}

-- the report of the lines from somewhere on
abbrev pub Parse : Type 0
Parse = List (List ℕ) → reports.Reading reports.Report

-- these bytes may follow: any, but none where the end of the source was met
abbrev pub MayFollow : Ahead → List ℕ → Type 0
MayFollow w more = w.ended ≡ true → more ≡ []

-- the lines from the front of a window on, if these bytes follow
abbrev pub lines_ahead : Ahead → List ℕ → List (List ℕ)
lines_ahead w bytes = lines_of (w.pending ++ bytes)

-- What comes of the lines ahead of the first window is what comes of those ahead of the second one,
-- which is left when these bytes were given.
abbrev pub Continues : {A : Type 0} → (List (List ℕ) → A) → (List (List ℕ) → A) → Ahead → Ahead → List ℕ → Type 0
Continues before after w w' bytes =
    (more : List ℕ) → MayFollow w' more → before (lines_ahead w (bytes ++ more)) ≡ after (lines_ahead w' more)

-- the number of the last line, by the lines that are left
abbrev pub last_number : Ahead → List (List ℕ) → ℕ
last_number w ls = w.number + length ls

-- the lines between the two windows are counted
abbrev pub Counts : Ahead → Ahead → List ℕ → Type 0
Counts w w' bytes = Continues (last_number w) (last_number w') w w' bytes

-- there are more lines than a report may have
abbrev pub HasTooManyLines : Ahead → Ahead → List ℕ → Type 0
HasTooManyLines w w' bytes = (more : List ℕ) → MayFollow w' more → most_report_lines + 1 < last_number w (lines_ahead w (bytes ++ more))

-- The report of the lines ahead is what comes of the result and the lines that are left then; or a
-- line is bad, whatever follows; or there are too many lines.
abbrev pub Answers : {X : Type 0} → Parse → (X → Parse) → Ahead → Ahead → List ℕ → Result X ReadStop → Type 0
Answers before after w w' bytes (Ok x) = Continues before (after x) w w' bytes × Counts w w' bytes
Answers before after w w' bytes (Err (BadReport (amiss.Syntax k))) = Continues before (λ ls. Err k) w w' bytes
Answers before after w w' bytes (Err (BadReport amiss.TooLong)) = HasTooManyLines w w' bytes
Answers before after w w' bytes (Err (BadReport e)) = ⊥
Answers before after w w' bytes (Err (SourceFailed e)) = IsCutOff e w'

abbrev pub Reads : {X : Type 0} → Parse → (X → Parse) → Reading → Reading → Ahead → Ahead → Result X ReadStop → Type 0
Reads before after old new w w' result =
    (bytes : List ℕ) × Gives old new w w' bytes (failed_calls result) × Answers before after w w' bytes result
