-- What is found of a report while it is read.
use Rattle.std.specs.Prelude.{◌≡◌, ℕ, List, ◌++◌, length, Option, Some, None, IfOk, Result, Ok, Err}
use Rattle.wf_model.specs.Task.{Task}
use Rattle.wf_model.specs.Problem.{problem_of}
use Rattle.wf_model.specs.Report as reports
use Rattle.wf_model.specs.Check.{header_fault}
use Rattle.wf_complex.specs.Protocol.{Built, Builds}
use Rattle.wf_base.specs.Streams.Seen.{Reading}
use Rattle.wf_base.specs.Streams.Texts.{Gave, IsText, failed_reads}
use Rattle.wf_base.specs.declared.streams.source.ReadFault.{ReadFault}
use Rattle.wf_report.specs.Reports.{with_header}
use Rattle.wf_report.specs.declared.report.Header.{Header}
use Rattle.wf_report.specs.declared.fault.CertFault.{CertFault}
use Rattle.wf_report.specs.Parts.{whole_report}
use Rattle.wf_report.specs.Reads.{MayFollow, Reads}
use Rattle.wf_report.specs.Windows.{Ahead}
use Rattle.wf_report.specs.declared.front.AnswerKind.{AnswerKind}
use Rattle.wf_report.specs.declared.front.AnswerKind.TheVariants as kind
use Rattle.wf_report.specs.declared.halt.ReadStop.{ReadStop}
use Rattle.wf_run.specs.Faults.{of_report_fault}
use Rattle.wf_run.specs.Run.{Judged, Next}
use Rattle.wf_run.specs.declared.fault.RunFault.{RunFault}
use Rattle.wf_run.specs.declared.fault.RunFault.TheVariants.{OutOfMemory}
use Rattle.wf_run_verify.specs.Verify.{IsAccepted, IsFaultOf, IsFaultless, IsReportOf, IsVerifiedFor, accepted_of, text_of}
use Rattle.wf_run_verify.specs.declared.outcome.Accepted.{Accepted}
use Rattle.wf_run_verify.specs.declared.outcome.Accepted.TheVariants.{Map, Nothing, Least}

-- ---- the rest of a text

-- no byte of the window was passed
pub record IsFirst (w : Ahead) : Type 0 where
  pub number : w.number ≡ 1
  pub given : w.given ≡ length w.pending

-- the text of a window and of what its source gives from there on
abbrev pub ReadsOn : Reading → Reading → Ahead → Result (List ℕ) ReadFault → Type 0
ReadsOn old new w text =
    (rest : List ℕ) × Gave old new rest (failed_reads text) × MayFollow w rest × IsText w.most (w.pending ++ rest) new.left text

-- its report, which is checked about the task, and for the rounds that are asked for, if any are
abbrev pub ReadsReportOn : Reading → Reading → Ahead → Result reports.Report RunFault → Type 0
ReadsReportOn old new w r = (text : Result (List ℕ) ReadFault) × ReadsOn old new w text × Judged (IsReportOf w.most) text r

abbrev pub ChecksOn : Option ℕ → Task → Reading → Reading → Ahead → Result (Accepted × List ℕ) RunFault → Type 0
ChecksOn rounds t old new w result =
    (r : Result reports.Report RunFault) × ReadsReportOn old new w r × Next (IsVerifiedFor rounds (IsAccepted rounds) t) r result

-- ---- what is found

-- what is accepted of a report with this answer
abbrev pub accepted_as : AnswerKind → Accepted
accepted_as kind.Map = Map
accepted_as kind.Nothing = Nothing
accepted_as kind.Least = Least

-- the complex for the rounds of a header without a fault; or why each report with this header is
-- refused
abbrev pub IsPrepared : Task → Header → Result Built RunFault → Type 0
IsPrepared t h (Ok b) =
    Builds t h.rounds (Ok b) × ((body : reports.Body) → header_fault t h.rounds (problem_of t h.rounds) (with_header h body) ≡ None)
IsPrepared t h (Err e) = (body : reports.Body) → IsFaultOf t (with_header h body) e

-- these rounds are asked for, or none
abbrev pub IsForRounds : Option ℕ → ℕ → Type 0
IsForRounds None r = Unit {0}
IsForRounds (Some wanted) r = r ≡ wanted

-- the same, where rounds may be asked for
abbrev pub IsPreparedFor : Option ℕ → Task → Header → Result Built RunFault → Type 0
IsPreparedFor rounds t h (Ok b) = IsForRounds rounds h.rounds × IsPrepared t h (Ok b)
IsPreparedFor rounds t h (Err e) = (body : reports.Body) → IsVerifiedFor rounds (IsAccepted rounds) t (with_header h body) (Err e)

-- what is found of a report
abbrev pub IsReported : Option ℕ → Task → reports.Report → Result Accepted RunFault → Type 0
IsReported rounds t r (Ok accepted) = IsForRounds rounds r.rounds × IsFaultless t r × (accepted ≡ accepted_of r.body)
IsReported rounds t r (Err e) = IsVerifiedFor rounds (IsAccepted rounds) t r (Err e)

-- the answer, if its body has no fault
abbrev pub accepted_if : {X : Type 0} → Result X CertFault → AnswerKind → Result Accepted RunFault
accepted_if (Ok x) answer = Ok (accepted_as answer)
accepted_if (Err e) answer = Err (of_report_fault e)

-- what was found is told; or memory ran out
abbrev pub IsTold : Option ℕ → Result Accepted RunFault → Result (Accepted × List ℕ) RunFault → Type 0
IsTold rounds (Ok accepted) (Ok answer) = (answer.0 ≡ accepted) × (answer.1 ≡ text_of rounds accepted)
IsTold rounds (Ok accepted) (Err e) = e ≡ OutOfMemory
IsTold rounds (Err e) result = result ≡ Err e

-- the report of the lines ahead, and what is found of it
abbrev pub ReadsReport : Option ℕ → Task → Reading → Reading → Ahead → Ahead → Result (Result Accepted RunFault) ReadStop → Type 0
ReadsReport rounds t old new w w' result =
    (r : reports.Report) × Reads whole_report (λ x ls. Ok r) old new w w' result × IfOk result (IsReported rounds t r)
