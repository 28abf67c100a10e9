-- What a run of the checker reads, writes, tells and answers.
use Rattle.std.specs.Prelude.{◌≡◌, ℕ, Result, Ok, Err, codes, string_bytes}
use Rattle.wf_base.specs.Streams.Seen.{Reading, Writing}
use Rattle.wf_base.specs.Streams.Ends.{CanCount, CanWrite}
use Rattle.wf_run_verify.specs.Certificates.{VerifiesCertificate}
use Rattle.wf_run_verify.specs.Proofs.{Refutes}
use Rattle.wf_run_verify.specs.Verify.{most_of}
use Rattle.wf_run_verify.specs.Hints.{RefutesByHints}
use Rattle.wf_run.specs.declared.fault.RunFault.{RunFault}
use Rattle.wf_cli.specs.Words.Asked.{GivenWords, IsAsked}
use Rattle.wf_cli.specs.declared.words.fault.WordsFault.{WordsFault}
use Rattle.wf_cli.specs.Service.Files.{CanAsk, Filing, Opening, Opens, state_of}
use Rattle.wf_cli.specs.Service.FileRuns.{Did, DoesBoth, WithFile}
use Rattle.wf_cli.specs.Service.Refusals.{Refuses, as_file_refusal}
use Rattle.wf_cli.specs.Service.Showing.{DeclinesAs}
use Rattle.wf_cli.specs.declared.service.refusal.Refusal.{Refusal}
use Rattle.wfverify.specs.Checker.Asked.{job_asked}
use Rattle.wfverify.specs.declared.checker.job.Check.{Check}
use Rattle.wfverify.specs.declared.checker.job.Check.TheVariants.{Certificate, Proof, HintedProof}
use Rattle.wfverify.specs.declared.checker.job.CheckJob.{CheckJob}

-- a certificate about a task was checked
abbrev pub Checks : Check → DoesBoth (Unit {0})
Checks (Certificate rounds long) task task' source source' sink sink' result =
    Did (VerifiesCertificate (most_of long) rounds) task task' source source' sink sink' result
Checks (Proof rounds) task task' source source' sink sink' result = Refutes rounds task task' source source' sink sink' result
Checks (HintedProof rounds) task task' source source' sink sink' result = RefutesByHints rounds task task' source source' sink sink' result

-- a certificate about the task in a file was checked, and a run that is refused is a refusal
abbrev pub ChecksFile : {F : Type 0} → (Opening → Type 0) → Check → Filing F → Filing F → Reading → Reading → Writing → Writing
    → Result (Unit {0}) Refusal → Type 0
ChecksFile comes check opener opener' source source' sink sink' done =
    (result : Result (Unit {0}) RunFault) × WithFile comes (Checks check) opener opener' source source' sink sink' result
    × (done ≡ as_file_refusal (state_of opener'.kept) result)

-- the certificate was checked about the task in the file, which is among those that may be opened
-- under its path
abbrev pub DoesJob : {F : Type 0} → Opens → CheckJob → Filing F → Filing F → Reading → Reading → Writing → Writing
    → Result (Unit {0}) Refusal → Type 0
DoesJob opens job opener opener' source source' sink sink' done =
    ChecksFile (opens (string_bytes job.task)) job.check opener opener' source source' sink sink' done

-- what is asked for was done; or there is no job, and nothing was read, and no file was asked for
abbrev pub DoesCheck : {F : Type 0} → Opens → Result CheckJob WordsFault → Filing F → Filing F → Reading → Reading → Writing → Writing
    → Result (Unit {0}) Refusal → Type 0
DoesCheck opens (Ok job) opener opener' source source' sink sink' done = DoesJob opens job opener opener' source source' sink sink' done
DoesCheck opens (Err e) opener opener' source source' sink sink' done =
    (opener' ≡ opener) × (source' ≡ source) × DeclinesAs (codes "wfverify") e sink sink' done

-- the exit status; a refusal is told, and nothing else
abbrev pub EndsCheck : Writing → Writing → Result (Unit {0}) Refusal → ℕ → Type 0
EndsCheck errors errors' (Ok done) status = (status ≡ 0) × (errors' ≡ errors)
EndsCheck errors errors' (Err e) status = Refuses (codes "wfverify") errors errors' e status

-- the words were judged, what they ask for was done, and a refusal was told
abbrev pub ServesCheck : {F : Type 0} → Opens → GivenWords → Filing F → Filing F → Reading → Reading → Writing → Writing → Writing
    → Writing → ℕ → Type 0
ServesCheck opens words opener opener' source source' sink sink' errors errors' status =
    (asked : Result CheckJob WordsFault) × (done : Result (Unit {0}) Refusal) × IsAsked job_asked words asked
    × DoesCheck opens asked opener opener' source source' sink sink' done × EndsCheck errors errors' done status

-- the opener and all three ends can count what a run asks of them
abbrev pub CanCheck : {F : Type 0} → Filing F → Reading → Writing → Writing → Type 0
CanCheck opener source sink errors = CanAsk opener × CanCount source sink × CanWrite errors
