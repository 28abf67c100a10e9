-- A run over two sources: a task, and a report about it.
use Rattle.std.specs.Prelude.{◌≡◌, ◌≢◌, ◌<◌, ◌==◌, ◌⊎◌, ℕ, Bool, List, [], ◌∷◌, ◌++◌, length, codes, decimal, Option, Some, None, Result, Ok, Err, if◌then◌else◌}
use Rattle.wf_model.specs.Limits.{most_bytes}
use Rattle.wf_model.specs.Task.{Task}
use Rattle.wf_model.specs.Report.{Report, Body, a_map, none, least, body_values, lines_of, report_of}
use Rattle.wf_model.specs.Check.{report_fault}
use Rattle.wf_model.specs.PointsText.{points_text}
use Rattle.wf_base.specs.Streams.Seen.{Reading, Writing}
use Rattle.wf_base.specs.Streams.Texts.{ReadsText}
use Rattle.wf_base.specs.declared.streams.source.ReadFault.{ReadFault}
use Rattle.wf_complex.specs.Protocol.{Built, IsProtocol}
use Rattle.wf_report.specs.declared.report.Report as code
use Rattle.wf_report.specs.Reports.{report_seen}
use Rattle.wf_report_check.specs.Faults.{Fails}
use Rattle.wf_report_check.specs.Truth.{HoldsOf}
use Rattle.wf_report.specs.declared.fault.CertFault.TheVariants as amiss
use Rattle.wf_report.specs.Limits.{most_report_bytes, most_report_lines}
use Rattle.wf_run.specs.Run.{Judged, Next, Ran, HasComplex, IsBeyondLimits}
use Rattle.wf_run.specs.Sources.{AsksPair, NextReads}
use Rattle.wf_run_verify.specs.declared.outcome.Accepted.{Accepted}
use Rattle.wf_run_verify.specs.declared.outcome.Accepted.TheVariants.{Map, Nothing, Least}
use Rattle.wf_run.specs.declared.fault.RunFault.{RunFault}
use Rattle.wf_run.specs.declared.fault.RunFault.TheVariants.{Cert, OtherRounds, OutOfMemory, TooLong}

-- how many bytes a report may have; a long one may have more than any other text
abbrev pub most_of : Bool → ℕ
most_of is_long = if is_long then most_report_bytes else most_bytes

-- the text has more than so many bytes, or more lines than any report; a text of most_bytes has
-- fewer lines than that
abbrev pub IsBeyond : ℕ → List ℕ → Type 0
IsBeyond most text = (most < length text) ⊎ (most_report_lines < length (lines_of text))

-- the report of a text that may have so many bytes, or the number of its first bad line
abbrev pub IsReportOf : ℕ → List ℕ → Result Report RunFault → Type 0
IsReportOf most text (Ok r) = report_of text ≡ Ok r
IsReportOf most text (Err (Cert (amiss.Syntax k))) = report_of text ≡ Err k
IsReportOf most text (Err TooLong) = IsBeyond most text
IsReportOf most text (Err OutOfMemory) = Unit {0}
IsReportOf most text (Err e) = ⊥

-- what is accepted of a report with this answer, and the words that say so
abbrev pub accepted_of : Body → Accepted
accepted_of (a_map m) = Map
accepted_of (none ls) = Nothing
accepted_of (least m ls) = Least

abbrev pub words_of : Accepted → List ℕ
words_of Map = codes "accepted map"
words_of Nothing = codes "accepted none"
words_of Least = codes "accepted least"

abbrev pub accepted_words : Body → List ℕ
accepted_words body = words_of (accepted_of body)

-- how a line ends that tells the rounds, where they are asked for
abbrev pub rounds_end : Option ℕ → List ℕ
rounds_end None = 10 ∷ []
rounds_end (Some rounds) =
    if rounds == 1 then codes " at 1 round" ++ 10 ∷ [] else codes " at " ++ (decimal rounds ++ (codes " rounds" ++ 10 ∷ []))

-- the line that says what is accepted, and for how many rounds, where these are asked for
abbrev pub text_of : Option ℕ → Accepted → List ℕ
text_of rounds accepted = words_of accepted ++ rounds_end rounds

abbrev pub accepted_text : Option ℕ → Body → List ℕ
accepted_text rounds body = text_of rounds (accepted_of body)

-- what a report answers, and the line that says so
abbrev pub IsAccepted : Option ℕ → Task → Report → Accepted → List ℕ → Type 0
IsAccepted rounds t r accepted text = (accepted ≡ accepted_of r.body) × (text ≡ accepted_text rounds r.body)

-- the points in words, with the values of the report's map
abbrev pub AreDecisions : Task → Report → Unit {0} → List ℕ → Type 0
AreDecisions t r answer text = text ≡ points_text t r.rounds (body_values r.body)

-- The report's rounds are within the limits and the checker finds no fault. So it is true: a map is
-- a decision map, a map with a certificate is the least one, and where there is none, no function
-- on the views is a decision map.
pub record IsFaultless (t : Task) (r : Report) : Type 0 where
  pub within : HasComplex t r.rounds
  pub faultless : report_fault t r.rounds r ≡ None
  pub holds : HoldsOf t r.rounds r.body

-- a report's first fault, or why there is no protocol complex for its rounds
abbrev pub IsFaultOf : Task → Report → RunFault → Type 0
IsFaultOf t r (Cert amiss.OutOfMemory) = ⊥
IsFaultOf t r (Cert e) = HasComplex t r.rounds × Fails e (report_fault t r.rounds r)
IsFaultOf t r e = IsBeyondLimits t r.rounds e

-- the protocol complex for the rounds of a report that is accepted; or it is refused
abbrev pub Judges : Task → Report → Result Built RunFault → Type 0
Judges t r (Ok b) = IsFaultless t r × IsProtocol t r.rounds b
Judges t r (Err e) = IsFaultOf t r e

-- the report is accepted, where is_text says which answer and text it has then; or it is refused
abbrev pub IsVerified : {X : Type 0} → (Task → Report → X → List ℕ → Type 0) → Task → Report → Result (X × List ℕ) RunFault → Type 0
IsVerified is_text t r (Ok answer) = IsFaultless t r × is_text t r answer.0 answer.1
IsVerified is_text t r (Err e) = IsFaultOf t r e

-- a report for the rounds that are asked for, if any are, is checked; one for others is refused
abbrev pub IsVerifiedFor : {X : Type 0} → Option ℕ → (Task → Report → X → List ℕ → Type 0) → Task → Report
    → Result (X × List ℕ) RunFault → Type 0
IsVerifiedFor None is_text t r result = IsVerified is_text t r result
IsVerifiedFor (Some rounds) is_text t r result =
    ((r.rounds ≡ rounds) × IsVerified is_text t r result) ⊎ ((r.rounds ≢ rounds) × (result ≡ Err OtherRounds))

-- the text, which may have so many bytes, is read as a report, and that is checked about the task,
-- and for the rounds that are asked for, if any are
abbrev pub ChecksText : ℕ → Option ℕ → Task → List ℕ → Result (Accepted × List ℕ) RunFault → Type 0
ChecksText most rounds t text result =
    (r : Result Report RunFault) × IsReportOf most text r × Next (IsVerifiedFor rounds (IsAccepted rounds) t) r result

-- the report of a source's text, which may have so many bytes
abbrev pub ReadsReport : ℕ → Reading → Reading → Result Report RunFault → Type 0
ReadsReport most old new result =
    (text : Result (List ℕ) ReadFault) × ReadsText most old new text × Judged (IsReportOf most) text result

-- a report of at most so many bytes is read, and checked about the task, and for the rounds that
-- are asked for, if any are; is_text says which answer and text it has then
abbrev pub ChecksReport : {X : Type 0} → ℕ → Option ℕ → (Task → Report → X → List ℕ → Type 0) → Task → Reading → Reading
    → Result (X × List ℕ) RunFault → Type 0
ChecksReport most rounds is_text t reports reports' result =
    (r : Result Report RunFault) × ReadsReport most reports reports' r × Next (IsVerifiedFor rounds is_text t) r result

-- the report is read where there is a task, and is else left alone
abbrev pub ChecksAfter : {X : Type 0} → ℕ → Option ℕ → (Task → Report → X → List ℕ → Type 0) → Reading → Reading → Result Task RunFault
    → Result (X × List ℕ) RunFault → Type 0
ChecksAfter most rounds is_text reports reports' t result = NextReads (ChecksReport most rounds is_text) reports reports' t result

-- the task is read, and then the report
abbrev pub ChecksBoth : {X : Type 0} → ℕ → Option ℕ → (Task → Report → X → List ℕ → Type 0) → Reading → Reading → Reading → Reading
    → Result (X × List ℕ) RunFault → Type 0
ChecksBoth most rounds is_text task task' reports reports' result =
    AsksPair (ChecksReport most rounds is_text) task task' reports reports' result

-- the same, for a report that is kept whole
abbrev pub ChecksFor : {X : Type 0} → Option ℕ → (Task → Report → X → List ℕ → Type 0) → Reading → Reading → Result Task RunFault
    → Result (X × List ℕ) RunFault → Type 0
ChecksFor rounds is_text reports reports' t result = ChecksAfter most_bytes rounds is_text reports reports' t result

abbrev pub Checks : {X : Type 0} → Option ℕ → (Task → Report → X → List ℕ → Type 0) → Reading → Reading → Reading → Reading
    → Result (X × List ℕ) RunFault → Type 0
Checks rounds is_text task task' reports reports' result = ChecksBoth most_bytes rounds is_text task task' reports reports' result

-- The report of a source, of at most so many bytes, was checked against the task of another one,
-- and what is accepted was written. Where rounds are asked for, the report has to be for these.
abbrev pub Verifies : ℕ → Option ℕ → Reading → Reading → Reading → Reading → Writing → Writing → Result Accepted RunFault → Type 0
Verifies most rounds task task' reports reports' sink sink' result =
    Ran (ChecksBoth most rounds (IsAccepted rounds) task task' reports reports') sink sink' result

-- the same for any rounds, and what the report's map decides at each point was written
abbrev pub Decides : Reading → Reading → Reading → Reading → Writing → Writing → Result (Unit {0}) RunFault → Type 0
Decides task task' reports reports' sink sink' result = Ran (Checks None AreDecisions task task' reports reports') sink sink' result

-- a report of the code, and what clauses see of it
abbrev pub seen : Result code.Report RunFault → Result Report RunFault
seen (Ok r) = Ok (report_seen r)
seen (Err e) = Err e
