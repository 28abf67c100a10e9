-- What status 0 of the checker means: in the field's words alone.
use Rattle.std.specs.Prelude.{◌≡◌, ◌⊎◌, ℕ, List, [], Option, Some, Result, Ok, Err}
use Rattle.wf_model.specs.Task.{Task}
use Rattle.wf_model.specs.DecisionMap.{HasNoDecisionMap}
use Rattle.wf_model.specs.Report.{Body, none}
use Rattle.wf_base.specs.Streams.Seen.{Reading, Writing}
use Rattle.wf_base.specs.Streams.Texts.{Wrote}
use Rattle.wf_run.specs.Given.{GaveTask}
use Rattle.wf_run_verify.specs.Headline.{AreAsked, GaveTruth}
use Rattle.wf_run_verify.specs.Verify.{accepted_text}
use Rattle.wf_run_verify.specs.Certificates.{never_text}
use Rattle.wf_cli.specs.Words.Asked.{GivenWords, IsAsked}
use Rattle.wf_cli.specs.declared.words.fault.WordsFault.{WordsFault}
use Rattle.wf_cli.specs.Service.Files.{Filing, Opens, after_asking, unread}
use Rattle.wfverify.specs.Checker.Asked.{job_asked}
use Rattle.wfverify.specs.Checker.Checker.{ServesCheck}
use Rattle.wfverify.specs.declared.checker.job.Check.{Check}
use Rattle.wfverify.specs.declared.checker.job.Check.TheVariants.{Certificate, Proof, HintedProof}
use Rattle.wfverify.specs.declared.checker.job.CheckJob.{CheckJob}

-- The sources gave a task and the text of a true report about it, which is about the rounds that
-- were asked for, and the sink took the line that says what is accepted.
abbrev pub IsTrueReport : Option ℕ → Reading → Reading → Reading → Reading → Writing → Writing → Type 0
IsTrueReport rounds task task' source source' sink sink' =
    (t : Task) × (r : ℕ) × (body : Body) × GaveTruth task task' source source' t r body × AreAsked rounds r
    × Wrote sink sink' (accepted_text rounds body)

-- the source of the task gave one that has no decision map after any number of rounds, and the sink
-- took the line that says so
abbrev pub IsTrueObstruction : Option ℕ → Reading → Reading → Writing → Writing → Type 0
IsTrueObstruction rounds task task' sink sink' =
    (t : Task) × GaveTask task task' t × ((r : ℕ) → HasNoDecisionMap t r) × Wrote sink sink' (never_text rounds)

-- the source of the task gave one that has no decision map after so many rounds, and the sink took
-- the line that says so
abbrev pub IsTrueProof : ℕ → Reading → Reading → Writing → Writing → Type 0
IsTrueProof rounds task task' sink sink' =
    (t : Task) × GaveTask task task' t × HasNoDecisionMap t rounds × Wrote sink sink' (accepted_text (Some rounds) (none []))

-- one of both
abbrev pub IsTrueCertificate : Option ℕ → Reading → Reading → Reading → Reading → Writing → Writing → Type 0
IsTrueCertificate rounds task task' source source' sink sink' =
    IsTrueReport rounds task task' source source' sink sink' ⊎ IsTrueObstruction rounds task task' sink sink'

-- what is true if a check accepts
abbrev pub IsTrue : Check → Reading → Reading → Reading → Reading → Writing → Writing → Type 0
IsTrue (Certificate rounds long) task task' source source' sink sink' = IsTrueCertificate rounds task task' source source' sink sink'
IsTrue (Proof rounds) task task' source source' sink sink' = IsTrueProof rounds task task' sink sink'
IsTrue (HintedProof rounds) task task' source source' sink sink' = IsTrueProof rounds task task' sink sink'

-- One file was opened, and what is true of its task is what the check says that the words ask for.
-- If the words make no job, they asked for a help or the version.
abbrev pub IsTrueOf : {F : Type 0} → Result CheckJob WordsFault → Filing F → Filing F → Reading → Reading → Writing → Writing → Type 0
IsTrueOf (Ok job) opener opener' source source' sink sink' =
    (left : Option (List ℕ)) × (file' : Reading) × (opener' ≡ after_asking opener 0 (Some file'))
    × IsTrue job.check (unread left) file' source source' sink sink'
IsTrueOf (Err e) opener opener' source source' sink sink' = (opener' ≡ opener) × (source' ≡ source)

-- `opener` is the opener before the run
abbrev pub ChecksAreTrue : {F : Type 0} → Opens → Filing F → Type 0
ChecksAreTrue {F = F} opens opener =
    (words : GivenWords) (opener' : Filing F) (source source' : Reading) (sink sink' errors errors' : Writing)
    → ServesCheck opens words opener opener' source source' sink sink' errors errors' 0
    → (asked : Result CheckJob WordsFault) × IsAsked job_asked words asked × IsTrueOf asked opener opener' source source' sink sink'
