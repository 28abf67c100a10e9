-- What holds after every run of the program.
use Rattle.std.specs.Prelude.{◌≡◌, ◌≢◌, ◌+◌, ◌≤◌, ◌⊎◌, ℕ, List, Option, Result, Ok, IfErr}
use Rattle.wf_model.specs.Limits.{most_bytes}
use Rattle.wf_model.specs.Task.{Task}
use Rattle.wf_task_presets.specs.declared.named.Preset.{Preset}
use Rattle.wf_base.specs.Streams.Seen.{Reading, Writing}
use Rattle.wf_run_verify.specs.Proofs.{most_proof_bytes}
use Rattle.wf_run_verify.specs.Verify.{most_of}
use Rattle.wf_run_branches.specs.Joining.{most_parts_bytes}
use Rattle.wf_cli.specs.Words.Asked.{GivenWords, IsAsked}
use Rattle.wf_cli.specs.declared.words.fault.WordsFault.{WordsFault}
use Rattle.wf_cli_args.specs.Asked.{job_asked}
use Rattle.wf_cli_args.specs.declared.asked.Job.{Job}
use Rattle.wf_cli_args.specs.declared.asked.Job.TheVariants as job
use Rattle.wf_cli_args.specs.declared.asked.TaskFileJob.{TaskFileJob}
use Rattle.wf_cli_args.specs.declared.asked.TaskFileJob.TheVariants as filed
use Rattle.wf_cli.specs.Service.Files.{Filing, Opens}
use Rattle.wf_cli.specs.Service.FileLaws.{IsFiled}
use Rattle.wf_cli.specs.Service.Laws.{calls_by_status}
use Rattle.wf_run.specs.declared.fault.RunFault.{RunFault}
use Rattle.wf_run.specs.declared.fault.RunFault.TheVariants.{Write}
use Rattle.wf_run.specs.Run.{by_result, failed_reads, failed_writes}
use Rattle.wf_run.specs.Laws.{IsCounted}
use Rattle.wf_cli_program.specs.declared.done.Note.{Note}
use Rattle.wf_cli_program.specs.Presets.{WritesPreset}
use Rattle.wf_cli_program.specs.Program.{Serves, TellsNote}
use Rattle.wf_cli_program.specs.Texts.{Lists}

-- how many files a job opens
abbrev pub file_count : Result Job WordsFault → ℕ
file_count (Ok (job.WithFile task what)) = 1
file_count asked = 0

-- how many bytes the text may have that is read of the source, beside a task in a file
abbrev pub most_beside : TaskFileJob → ℕ
most_beside (filed.Verify rounds long) = most_of long
most_beside (filed.Proof asked) = most_proof_bytes
most_beside (filed.Join rounds) = most_parts_bytes
most_beside what = most_bytes

-- and whatever is asked for
abbrev pub most_read : Result Job WordsFault → ℕ
most_read (Ok (job.WithFile task what)) = most_beside what
most_read asked = most_bytes

-- The status is at most 4, and 4 exactly where one call of the source, the sink, the opener or the
-- file that it opened failed. At most one byte more is taken than the text may have that the job
-- reads. At 0 and 1 nothing is told but a note, and nothing is written at 2 and 3.
pub record IsServed {F : Type 0} (asked : Result Job WordsFault) (opener opener' : Filing F) (source source' : Reading) (sink sink' errors errors' : Writing) (status : ℕ) : Type 0 where
  pub most : status ≤ 4
  pub files : (failed : ℕ) × IsFiled (file_count asked) opener opener' failed
      × (source'.failures + sink'.failures + failed ≡ (source.failures + sink.failures) + calls_by_status status)
  pub taken : source'.taken ≤ source.taken + (most_read asked + 1)
  pub quiet : status ≤ 1 → (note : Option Note) × TellsNote errors errors' note
  pub unwritten : (status ≡ 2) ⊎ (status ≡ 3) → sink' ≡ sink

-- `opener` is the opener before the run
abbrev pub ServingIsCounted : {F : Type 0} → Opens → Filing F → Type 0
ServingIsCounted {F = F} opens opener =
    (words : GivenWords) (opener' : Filing F) (source source' : Reading) (sink sink' errors errors' : Writing) (status : ℕ)
    → Serves opens words opener opener' source source' sink sink' errors errors' status
    → (asked : Result Job WordsFault) × IsAsked job_asked words asked
    × IsServed asked opener opener' source source' sink sink' errors errors' status

-- ---- the runs that only list or write

abbrev pub ListingIsCounted : Type 0
ListingIsCounted =
    (text_of : Task → ℕ → List ℕ) (rounds : ℕ) (source source' : Reading) (sink sink' : Writing) (result : Result (Unit {0}) RunFault)
    → Lists text_of rounds source source' sink sink' result → IsCounted source source' sink sink' result

-- A failed write is told by 31, and no failed read is told. After any other
-- refusal the sink is as it was.
pub record IsWritten {X : Type 0} (sink sink' : Writing) (result : Result X RunFault) : Type 0 where
  pub reads : by_result failed_reads result ≡ 0
  pub writes : sink'.failures ≡ sink.failures + by_result failed_writes result
  pub unwritten : IfErr result (λ e. e ≢ Write → sink' ≡ sink)

abbrev pub PresetsAreCounted : Type 0
PresetsAreCounted =
    (preset : Preset) (sink sink' : Writing) (result : Result (Unit {0}) RunFault)
    → WritesPreset preset sink sink' result → IsWritten sink sink' result
