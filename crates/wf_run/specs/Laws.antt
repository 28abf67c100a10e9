-- What holds after a run over one source, or over two, whatever it answers.
use Rattle.std.specs.Prelude.{◌≡◌, ◌≢◌, ◌+◌, ◌≤◌, ℕ, Result, IfErr}
use Rattle.wf_model.specs.Limits.{most_bytes}
use Rattle.wf_base.specs.Streams.Seen.{Reading, Writing}
use Rattle.wf_run.specs.declared.fault.RunFault.{RunFault}
use Rattle.wf_run.specs.declared.fault.RunFault.TheVariants.{Write}
use Rattle.wf_run.specs.Run.{by_result, failed_reads, failed_writes}

-- At most one byte more than a text may have is taken. A failed read is told by 30 and nothing else
-- is, and a failed write by 31. After any other refusal the sink is as it was.
pub record IsCounted {X : Type 0} (source source' : Reading) (sink sink' : Writing) (result : Result X RunFault) : Type 0 where
  pub taken : source'.taken ≤ source.taken + (most_bytes + 1)
  pub reads : source'.failures ≡ source.failures + by_result failed_reads result
  pub writes : sink'.failures ≡ sink.failures + by_result failed_writes result
  pub unwritten : IfErr result (λ e. e ≢ Write → sink' ≡ sink)

-- so many reads of a task's source and of another one failed, which is told
pub record AreCounted (task task' reports reports' : Reading) (failed : ℕ) : Type 0 where
  pub of_task : ℕ
  pub of_reports : ℕ
  pub task_failures : task'.failures ≡ task.failures + of_task
  pub report_failures : reports'.failures ≡ reports.failures + of_reports
  pub all : of_task + of_reports ≡ failed

-- Over two sources, a task's and another one whose text may have `most` bytes: at most one byte
-- more than a text may have is taken of each, and a failed read of either is told by 30.
pub record IsChecked {X : Type 0} (most : ℕ) (task task' reports reports' : Reading) (sink sink' : Writing) (result : Result X RunFault) : Type 0 where
  pub task_taken : task'.taken ≤ task.taken + (most_bytes + 1)
  pub report_taken : reports'.taken ≤ reports.taken + (most + 1)
  pub reads : AreCounted task task' reports reports' (by_result failed_reads result)
  pub writes : sink'.failures ≡ sink.failures + by_result failed_writes result
  pub unwritten : IfErr result (λ e. e ≢ Write → sink' ≡ sink)
