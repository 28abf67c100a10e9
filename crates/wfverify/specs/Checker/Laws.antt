-- What holds after every run of the checker.
use Rattle.std.specs.Prelude.{◌≡◌, ◌+◌, ◌≤◌, ◌⊎◌, ℕ, Result, Ok, Err}
use Rattle.wf_model.specs.Limits.{most_bytes}
use Rattle.wf_base.specs.Streams.Seen.{Reading, Writing}
use Rattle.wf_run_verify.specs.Proofs.{most_proof_bytes}
use Rattle.wf_run_verify.specs.Verify as verify
use Rattle.wf_cli.specs.Words.Asked.{GivenWords, IsAsked}
use Rattle.wf_cli.specs.declared.words.fault.WordsFault.{WordsFault}
use Rattle.wf_cli.specs.Service.Files.{Filing, Opens}
use Rattle.wf_cli.specs.Service.FileLaws.{IsFiled}
use Rattle.wf_cli.specs.Service.Laws.{calls_by_status}
use Rattle.wfverify.specs.Checker.Asked.{job_asked}
use Rattle.wfverify.specs.Checker.Checker.{ServesCheck}
use Rattle.wfverify.specs.declared.checker.job.Check.{Check}
use Rattle.wfverify.specs.declared.checker.job.Check.TheVariants.{Certificate}
use Rattle.wfverify.specs.declared.checker.job.CheckJob.{CheckJob}

-- how many files a job opens
abbrev pub files_of : Result CheckJob WordsFault → ℕ
files_of (Ok job) = 1
files_of (Err e) = 0

-- how many bytes a certificate may have
abbrev pub most_of : Check → ℕ
most_of (Certificate rounds long) = verify.most_of long
most_of check = most_proof_bytes

abbrev pub most_given : Result CheckJob WordsFault → ℕ
most_given (Ok job) = most_of job.check
most_given (Err e) = most_bytes

-- The status is 0, 2, 3 or 4, and 4 exactly where one call of the source, the sink, the opener or
-- the file that it opened failed. At most one byte more is taken than the certificate may have. At
-- 0 nothing is told, and nothing is written at 2 and 3.
pub record IsCheckServed {F : Type 0} (asked : Result CheckJob WordsFault) (opener opener' : Filing F) (source source' : Reading) (sink sink' errors errors' : Writing) (status : ℕ) : Type 0 where
  pub statuses : (status ≡ 0) ⊎ ((2 ≤ status) × (status ≤ 4))
  pub files : (failed : ℕ) × IsFiled (files_of asked) opener opener' failed
      × (source'.failures + sink'.failures + failed ≡ (source.failures + sink.failures) + calls_by_status status)
  pub taken : source'.taken ≤ source.taken + (most_given asked + 1)
  pub quiet : status ≡ 0 → errors' ≡ errors
  pub unwritten : (status ≡ 2) ⊎ (status ≡ 3) → sink' ≡ sink

-- `opener` is the opener before the run
abbrev pub CheckingIsCounted : {F : Type 0} → Opens → Filing F → Type 0
CheckingIsCounted {F = F} opens opener =
    (words : GivenWords) (opener' : Filing F) (source source' : Reading) (sink sink' errors errors' : Writing) (status : ℕ)
    → ServesCheck opens words opener opener' source source' sink sink' errors errors' status
    → (asked : Result CheckJob WordsFault) × IsAsked job_asked words asked
    × IsCheckServed asked opener opener' source source' sink sink' errors errors' status
