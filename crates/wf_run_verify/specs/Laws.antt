-- What holds after every check, whatever it answers.
use Rattle.std.specs.Prelude.{◌≡◌, ◌≤◌, ℕ, List, length, Option, Some, Result, Ok, Err}
use Rattle.wf_model.specs.Limits.{most_bytes}
use Rattle.wf_model.specs.Task.{Task}
use Rattle.wf_base.specs.Streams.Seen.{Reading, Writing}
use Rattle.wf_base.specs.Streams.Texts.{Wrote}
use Rattle.wf_run_verify.specs.declared.outcome.Accepted.{Accepted}
use Rattle.wf_run_verify.specs.declared.outcome.Accepted.TheVariants as accepted
use Rattle.wf_run.specs.declared.fault.RunFault.{RunFault}
use Rattle.wf_run.specs.declared.fault.RunFault.TheVariants.{OutOfMemory}
use Rattle.wf_run_verify.specs.Verify.{ChecksText, Decides, Verifies}
use Rattle.wf_run_verify.specs.Certificates.{VerifiesCertificate}
use Rattle.wf_run_verify.specs.declared.outcome.Verified.{Verified}
use Rattle.wf_run_verify.specs.declared.outcome.Verified.TheVariants as verified
use Rattle.wf_run_verify.specs.Models.{Models}
use Rattle.wf_run_verify.specs.Hints.{RefutesByHints}
use Rattle.wf_run_verify.specs.Proofs.{Refutes, most_proof_bytes}
use Rattle.wf_run.specs.Given.{GaveTask}
use Rattle.wf_run.specs.Laws.{IsChecked}

abbrev pub VerifyingIsCounted : Type 0
VerifyingIsCounted =
    (most : ℕ) (rounds : Option ℕ) (task task' reports reports' : Reading) (sink sink' : Writing) (result : Result Accepted RunFault)
    → Verifies most rounds task task' reports reports' sink sink' result → IsChecked most task task' reports reports' sink sink' result

-- an obstruction may have most_bytes, whatever a report may have
abbrev pub VerifyingCertificatesIsCounted : Type 0
VerifyingCertificatesIsCounted =
    (most : ℕ) (rounds : Option ℕ) (task task' source source' : Reading) (sink sink' : Writing) (result : Result Verified RunFault)
    → most_bytes ≤ most → VerifiesCertificate most rounds task task' source source' sink sink' result
    → IsChecked most task task' source source' sink sink' result

-- A certificate that is accepted as a report is a report that a check accepts. So what is true of
-- accepted reports is true of it.
abbrev pub AcceptedReportsAreVerified : Type 0
AcceptedReportsAreVerified =
    (most : ℕ) (rounds : Option ℕ) (task task' source source' : Reading) (sink sink' : Writing) (accepted : Accepted)
    → VerifiesCertificate most rounds task task' source source' sink sink' (Ok (verified.Report accepted))
    → Verifies most rounds task task' source source' sink sink' (Ok accepted)

abbrev pub DecidingIsCounted : Type 0
DecidingIsCounted =
    (task task' reports reports' : Reading) (sink sink' : Writing) (result : Result (Unit {0}) RunFault)
    → Decides task task' reports reports' sink sink' result → IsChecked most_bytes task task' reports reports' sink sink' result

abbrev pub ModellingIsCounted : Type 0
ModellingIsCounted =
    (rounds : ℕ) (task task' output output' : Reading) (sink sink' : Writing) (result : Result (Unit {0}) RunFault)
    → Models rounds task task' output output' sink sink' result → IsChecked most_bytes task task' output output' sink sink' result

abbrev pub ProvingIsCounted : Type 0
ProvingIsCounted =
    (rounds : ℕ) (task task' proof proof' : Reading) (sink sink' : Writing) (result : Result (Unit {0}) RunFault)
    → Refutes rounds task task' proof proof' sink sink' result → IsChecked most_proof_bytes task task' proof proof' sink sink' result

abbrev pub HintedProvingIsCounted : Type 0
HintedProvingIsCounted =
    (rounds : ℕ) (task task' proof proof' : Reading) (sink sink' : Writing) (result : Result (Unit {0}) RunFault)
    → RefutesByHints rounds task task' proof proof' sink sink' result → IsChecked most_proof_bytes task task' proof proof' sink sink' result

-- the answer of a check says what the search found, or memory ran out
abbrev pub Accepts : Accepted → Result (Accepted × List ℕ) RunFault → Type 0
Accepts accepted (Ok answer) = answer.0 ≡ accepted
Accepts accepted (Err OutOfMemory) = Unit {0}
Accepts accepted (Err e) = ⊥

-- What is written of a solver's model is the text of a report, of which a check that asks for these
-- rounds says that it is accepted, where it has at most as many bytes as a text may have.
abbrev pub ModelsAreAccepted : Type 0
ModelsAreAccepted =
    (rounds : ℕ) (task task' output output' : Reading) (sink sink' : Writing)
    → Models rounds task task' output output' sink sink' (Ok tt)
    → (t : Task) × (text : List ℕ) × GaveTask task task' t × Wrote sink sink' text
    × (length text ≤ most_bytes → (answer : Result (Accepted × List ℕ) RunFault) → ChecksText most_bytes (Some rounds) t text answer → Accepts accepted.Map answer)
