-- A run over two sources: a task, and a certificate about it. A certificate is an obstruction if
-- its first line says so, and is a report otherwise.
use Rattle.std.specs.Prelude.{◌≡◌, ◌⊎◌, ℕ, Bool, true, false, if◌then◌else◌, List, [], ◌∷◌, ◌++◌, codes, Option, None, Some, Result, Ok, Err}
use Rattle.wf_model.specs.Limits.{most_bytes}
use Rattle.wf_model.specs.Task.{Task}
use Rattle.wf_model.specs.Report.{none}
use Rattle.wf_base.specs.Streams.Seen.{Reading, Writing}
use Rattle.wf_base.specs.Streams.Texts.{Gave, IsText, failed_reads}
use Rattle.wf_base.specs.declared.streams.source.ReadFault.{ReadFault}
use Rattle.wf_report.specs.Reads.{MayFollow}
use Rattle.wf_report.specs.Windows as windows
use Rattle.wf_report.specs.Windows.{Ahead, Gives, IsCutShort}
use Rattle.wf_tree_text.specs.Text.{Obstruction, begins_as_obstruction}
use Rattle.wf_run.specs.Run.{Judged, Next, Ran}
use Rattle.wf_run.specs.Sources.{AsksPair, NextReads}
use Rattle.wf_run_verify.specs.Obstructions.{IsObstructionOf, IsRefusalOf, IsSound}
use Rattle.wf_run_verify.specs.Verify.{ChecksText, accepted_text}
use Rattle.wf_run_verify.specs.declared.outcome.Accepted.{Accepted}
use Rattle.wf_run_verify.specs.declared.outcome.Verified.{Verified}
use Rattle.wf_run_verify.specs.declared.outcome.Verified.TheVariants as verified
use Rattle.wf_run.specs.declared.fault.RunFault.{RunFault}

-- ---- an obstruction

-- the line that says what is accepted of an obstruction
abbrev pub never_text : Option ℕ → List ℕ
never_text None = codes "accepted none at every number of rounds" ++ 10 ∷ []
never_text (Some rounds) = accepted_text (Some rounds) (none [])

abbrev pub JudgesObstruction : Option ℕ → Task → Obstruction → Result (Verified × List ℕ) RunFault → Type 0
JudgesObstruction rounds t o (Ok answer) = IsSound t o × (answer.0 ≡ verified.Obstruction) × (answer.1 ≡ never_text rounds)
JudgesObstruction rounds t o (Err e) = IsRefusalOf t o e

-- the text is read as an obstruction, and that is judged about the task
abbrev pub ChecksObstruction : Option ℕ → Task → List ℕ → Result (Verified × List ℕ) RunFault → Type 0
ChecksObstruction rounds t text result =
    (o : Result Obstruction RunFault) × IsObstructionOf text o × Next (JudgesObstruction rounds t) o result

-- ---- a certificate

-- what is accepted of a report, as of a certificate
abbrev pub as_verified : Result (Accepted × List ℕ) RunFault → Result (Verified × List ℕ) RunFault
as_verified (Ok answer) = Ok (verified.Report answer.0, answer.1)
as_verified (Err e) = Err e

abbrev pub ChecksReport : ℕ → Option ℕ → Task → List ℕ → Result (Verified × List ℕ) RunFault → Type 0
ChecksReport most rounds t text result =
    (answer : Result (Accepted × List ℕ) RunFault) × ChecksText most rounds t text answer × (result ≡ as_verified answer)

-- the first line says what the text is checked as; a report may have so many bytes
abbrev pub ChecksCertificate : ℕ → Option ℕ → Task → List ℕ → Result (Verified × List ℕ) RunFault → Type 0
ChecksCertificate most rounds t text result =
    ((begins_as_obstruction text ≡ true) × ChecksObstruction rounds t text result)
    ⊎ ((begins_as_obstruction text ≡ false) × ChecksReport most rounds t text result)

-- how many bytes a certificate may have that begins with these: an obstruction is kept whole
abbrev pub most_behind : ℕ → List ℕ → ℕ
most_behind most given = if begins_as_obstruction given then most_bytes else most

-- the text of a certificate, or why there is none
abbrev pub ReadsCertificate : ℕ → Reading → Reading → Result (List ℕ) ReadFault → Type 0
ReadsCertificate most old new text =
    (given : List ℕ) × Gave old new given (failed_reads text) × IsText (most_behind most given) given new.left text

-- a certificate is read, and checked about the task
abbrev pub ChecksSource : ℕ → Option ℕ → Task → Reading → Reading → Result (Verified × List ℕ) RunFault → Type 0
ChecksSource most rounds t old new result =
    (text : Result (List ℕ) ReadFault) × ReadsCertificate most old new text × Judged (ChecksCertificate most rounds t) text result

-- the certificate is read where there is a task, and is else left alone
abbrev pub ChecksCertificateFor : ℕ → Option ℕ → Reading → Reading → Result Task RunFault → Result (Verified × List ℕ) RunFault → Type 0
ChecksCertificateFor most rounds source source' t result = NextReads (ChecksSource most rounds) source source' t result

abbrev pub ChecksBoth : ℕ → Option ℕ → Reading → Reading → Reading → Reading → Result (Verified × List ℕ) RunFault → Type 0
ChecksBoth most rounds task task' source source' result = AsksPair (ChecksSource most rounds) task task' source source' result

-- The certificate of a source was checked against the task of another one, and what is accepted was
-- written. A report may have so many bytes. If rounds are asked for, a report has to be for these;
-- an obstruction is for all.
abbrev pub VerifiesCertificate : ℕ → Option ℕ → Reading → Reading → Reading → Reading → Writing → Writing → Result Verified RunFault
    → Type 0
VerifiesCertificate most rounds task task' source source' sink sink' result =
    Ran (ChecksBoth most rounds task task' source source') sink sink' result

-- ---- the first line

-- whether the text is one of an obstruction, whatever follows
abbrev pub BeginsAs : Bool → Ahead → Type 0
BeginsAs is_one w = (more : List ℕ) → MayFollow w more → begins_as_obstruction (w.pending ++ more) ≡ is_one

abbrev pub IsPeeked : Ahead → Ahead → List ℕ → Result Bool ReadFault → Type 0
IsPeeked w w' bytes (Ok is_one) = (w'.pending ≡ w.pending ++ bytes) × (w'.number ≡ w.number) × BeginsAs is_one w'
IsPeeked w w' bytes (Err e) = IsCutShort e w w' bytes

abbrev pub Peeks : Reading → Reading → Ahead → Ahead → Result Bool ReadFault → Type 0
Peeks old new w w' result = (bytes : List ℕ) × Gives old new w w' bytes (windows.failed_reads result) × IsPeeked w w' bytes result
