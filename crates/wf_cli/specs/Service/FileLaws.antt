-- What holds after each run with the task in a file.
use Rattle.std.specs.Prelude.{◌≡◌, ◌≢◌, ◌+◌, ◌*◌, ◌≤◌, ℕ, List, Option, Some, None, Result, Ok, Err, IfErr}
use Rattle.wf_model.specs.Limits.{most_bytes}
use Rattle.wf_base.specs.Streams.Seen.{Reading, Writing}
use Rattle.wf_run.specs.declared.fault.RunFault.{RunFault}
use Rattle.wf_run.specs.declared.fault.RunFault.TheVariants.{Write}
use Rattle.wf_run.specs.Run.{failed_reads, failed_writes}
use Rattle.wf_run.specs.Laws.{IsChecked}
use Rattle.wf_cli.specs.Service.Files.{Filing, Opens}
use Rattle.wf_cli.specs.Service.FileRuns.{DoesBoth, WithFile}

-- how many reads of the file that is kept failed, and how many bytes it gave
abbrev pub kept_failures : Option Reading → ℕ
kept_failures (Some file) = file.failures
kept_failures None = 0

abbrev pub kept_taken : Option Reading → ℕ
kept_taken (Some file) = file.taken
kept_taken None = 0

-- So many files were asked for, none or one, and of what was opened and kept then at most one byte
-- more than a text may have was taken. So many calls failed: a file that can't be opened, or reads
-- of the one that is kept.
pub record IsFiled {F : Type 0} (files : ℕ) (opener opener' : Filing F) (failed : ℕ) : Type 0 where
  pub opens : opener'.asked ≡ opener.asked + files
  pub taken : files * kept_taken opener'.kept ≤ most_bytes + 1
  pub failures : opener'.failures + files * kept_failures opener'.kept ≡ opener.failures + failed

-- how many calls failed, by what is answered
abbrev pub calls_of_fault : RunFault → ℕ
calls_of_fault e = failed_reads e + failed_writes e

abbrev pub failed_calls : Result (Unit {0}) RunFault → ℕ
failed_calls (Ok done) = 0
failed_calls (Err e) = calls_of_fault e

-- So many calls of the opener and of its file failed, at most one byte more than so many was taken
-- of the source, and each failed call is told: by 30 a read, and by 31 a write. After any other
-- refusal the sink is as it was.
pub record IsFileRun {F : Type 0} (most : ℕ) (opener opener' : Filing F) (source source' : Reading) (sink sink' : Writing) (result : Result (Unit {0}) RunFault) : Type 0 where
  pub of_file : ℕ
  pub filed : IsFiled 1 opener opener' of_file
  pub taken : source'.taken ≤ source.taken + (most + 1)
  pub failures : source'.failures + sink'.failures + of_file ≡ (source.failures + sink.failures) + failed_calls result
  pub unwritten : IfErr result (λ e. e ≢ Write → sink' ≡ sink)

-- what is done with a task and what the other source gives, of which so many bytes may be a text
abbrev pub Checked : ℕ → DoesBoth (Unit {0}) → Type 0
Checked most does =
    (task task' source source' : Reading) (sink sink' : Writing) (result : Result (Unit {0}) RunFault)
    → does task task' source source' sink sink' result → IsChecked most task task' source source' sink sink' result

-- `opener` is the opener before a run that does this
abbrev pub FileRunsAreCounted : {F : Type 0} → Opens → DoesBoth (Unit {0}) → Filing F → Type 0
FileRunsAreCounted {F = F} opens does opener =
    (most : ℕ) (path : List ℕ) (opener' : Filing F) (source source' : Reading) (sink sink' : Writing) (result : Result (Unit {0}) RunFault)
    → Checked most does → WithFile (opens path) does opener opener' source source' sink sink' result
    → IsFileRun most opener opener' source source' sink sink' result
