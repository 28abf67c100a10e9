-- The counts of a run over two sources, whatever is read of the second one.
use Rattle.std.proofs.Common.{◌≡◌, ℕ, ◌+◌, ◌≤◌, List, Result, Err, ap, ◌∙◌, arith}
use Rattle.wf_model.specs.Task.{Task}
use Rattle.wf_base.specs.Streams.Seen.{Reading, Writing}
use Rattle.wf_base.specs.Streams.Texts as io
use Rattle.wf_model.specs.Limits.{most_bytes}
use Rattle.wf_run.specs.declared.fault.RunFault.{RunFault}
use Rattle.wf_run.specs.Run.{Hands, IsTaskOf, Reads, failed_reads, failed_writes, by_result}
use Rattle.wf_run.specs.Laws.{IsChecked}
use Rattle.wf_run.proofs.Counts.{few, handed, judged}

-- what a run counts of a source that is read after a step that gave something or was refused
pub record IsReportCounted {X Y : Type 0} (most : ℕ) (reports reports' : Reading) (before : Result Y RunFault) (answer : Result (X × List ℕ) RunFault) : Type 0 where
  pub taken : reports'.taken ≤ reports.taken + (most + 1)
  pub failed : ℕ
  pub failures : reports'.failures ≡ reports.failures + failed
  pub reads : by_result failed_reads before + failed ≡ by_result failed_reads answer
  pub writes : by_result failed_writes answer ≡ 0

-- it was left alone after a refusal
pub left_alone : {X Y : Type 0} (most : ℕ) (reports reports' : Reading) (e : RunFault) (answer : Result (X × List ℕ) RunFault) → answer ≡ Err e → reports' ≡ reports → failed_writes e ≡ 0 → IsReportCounted {Y = Y} most reports reports' (Err e) answer
left_alone most reports reports' e answer is same w =
    let takes : reports'.taken ≡ reports.taken = ap (λ s. s.taken) same in
    let fails : reports'.failures ≡ reports.failures = ap (λ s. s.failures) same in
    let reads : by_result failed_reads answer ≡ failed_reads e = ap (by_result failed_reads) is in
    record {
      taken = omega (arith, takes);
      failed = 0;
      failures = omega (arith, fails);
      reads = omega (arith, reads);
      writes = ap (by_result failed_writes) is ∙ w;
    }

-- a run over a task and another source, whatever it answers
pub both_counted : {X : Type 0} (most : ℕ) (task task' reports reports' : Reading) (sink sink' : Writing) (t : Result Task RunFault) (answer : Result (X × List ℕ) RunFault) (result : Result X RunFault)
    → Reads IsTaskOf task task' t → (by_result failed_writes t ≡ 0 → IsReportCounted most reports reports' t answer) → Hands sink sink' answer result → IsChecked most task task' reports reports' sink sink' result
both_counted most task task' reports reports' sink sink' t answer result (text, (given, gave, is), j) counted h =
    let a = judged text t j in
    let b = counted a.1 in
    let c = handed sink sink' answer result h b.writes in
    let bound = few most_bytes given task'.left text is in
    record {
      task_taken = omega (arith, gave.taken, bound);
      report_taken = b.taken;
      reads = record { of_task = io.failed_reads text; of_reports = b.failed; task_failures = gave.failures; report_failures = b.failures; all = omega (arith, a.0, b.reads, c.reads) };
      writes = c.writes;
      unwritten = c.unwritten;
    }
