-- The counts of a run over a task and a report.
use Rattle.std.proofs.Common.{◌≡◌, ℕ, inl, inr, List, Option, Some, None, Result, Ok, Err, refl, sym, ap, ◌∙◌, arith}
use Rattle.wf_model.specs.Task.{Task}
use Rattle.wf_model.specs.Report.{Report}
use Rattle.wf_base.specs.Streams.Seen.{Reading, Writing}
use Rattle.wf_base.specs.Streams.Texts as io
use Rattle.wf_base.specs.declared.streams.source.ReadFault.{ReadFault}
use Rattle.wf_base.specs.declared.streams.source.ReadFault.TheVariants as read
use Rattle.wf_model.specs.Limits.{most_bytes}
use Rattle.wf_run.specs.declared.fault.RunFault.{RunFault}
use Rattle.wf_run.specs.declared.fault.RunFault.TheVariants as run
use Rattle.wf_run.specs.Run.{Next, Judged, Ran, failed_reads, failed_writes, by_result}
use Rattle.wf_run.specs.Laws.{IsChecked}
use Rattle.wf_run_verify.specs.Verify.{IsReportOf, IsVerified, IsVerifiedFor, Checks, ChecksAfter, ChecksBoth}
use Rattle.wf_run.proofs.Lemmas.{beyond, few, IsReportCounted, left_alone, both_counted}

-- reading fails what the text fails
pub judged_report : (most : ℕ) (text : Result (List ℕ) ReadFault) (r : Result Report RunFault) → Judged (IsReportOf most) text r → (io.failed_reads text ≡ by_result failed_reads r) × (by_result failed_writes r ≡ 0)
judged_report most (Ok text) (Ok r) j = (refl, refl)
judged_report most (Ok text) (Err run.Read) j = absurd j
judged_report most (Ok text) (Err run.Write) j = absurd j
judged_report most (Ok text) (Err e) j = (refl, refl)
judged_report most (Err read.TooLong) r j = (sym (ap (by_result failed_reads) j), ap (by_result failed_writes) j)
judged_report most (Err read.OutOfMemory) r j = (sym (ap (by_result failed_reads) j), ap (by_result failed_writes) j)
judged_report most (Err read.Read) r j = (sym (ap (by_result failed_reads) j), ap (by_result failed_writes) j)

-- a check fails no call
pub checks_alone : {X : Type 0} (is_text : Task → Report → X → List ℕ → Type 0) (t : Task) (r : Report) (answer : Result (X × List ℕ) RunFault) → IsVerified is_text t r answer
    → (0 ≡ by_result failed_reads answer) × (by_result failed_writes answer ≡ 0)
checks_alone is_text t r (Ok a) is = (refl, refl)
checks_alone is_text t r (Err (run.Cert e)) is = (refl, refl)
checks_alone is_text t r (Err e) is = (sym (beyond t r.rounds e is).0, (beyond t r.rounds e is).1)

pub verified : {X : Type 0} (rounds : Option ℕ) (is_text : Task → Report → X → List ℕ → Type 0) (t : Task) (r : Result Report RunFault) (answer : Result (X × List ℕ) RunFault) → Next (IsVerifiedFor rounds is_text t) r answer → by_result failed_writes r ≡ 0
    → (by_result failed_reads r ≡ by_result failed_reads answer) × (by_result failed_writes answer ≡ 0)
verified None is_text t (Ok r) answer n w = checks_alone is_text t r answer n
verified (Some rounds) is_text t (Ok r) answer (inl (same, n)) w = checks_alone is_text t r answer n
verified (Some rounds) is_text t (Ok r) answer (inr (other, is)) w = (sym (ap (by_result failed_reads) is), ap (by_result failed_writes) is)
verified rounds is_text t (Err e) answer n w = (sym (ap (by_result failed_reads) n), ap (by_result failed_writes) n ∙ w)

module _ {X : Type 0} (most : ℕ) (rounds : Option ℕ) (is_text : Task → Report → X → List ℕ → Type 0) where
  report_counted : (reports reports' : Reading) (t : Result Task RunFault) (answer : Result (X × List ℕ) RunFault) → ChecksAfter most rounds is_text reports reports' t answer → by_result failed_writes t ≡ 0
      → IsReportCounted most reports reports' t answer
  report_counted reports reports' (Ok t) answer (r, (text, (given, gave, is), j), n) w =
      let a = judged_report most text r j in
      let b = verified rounds is_text t r answer n a.1 in
      let bound = few most given reports'.left text is in
      record {
        taken = omega (arith, gave.taken, bound);
        failed = io.failed_reads text;
        failures = gave.failures;
        reads = omega (arith, a.0, b.0);
        writes = b.1;
      }
  report_counted reports reports' (Err e) answer (is, same) w = left_alone most reports reports' e answer is same w

  -- a run over a task and a report of at most so many bytes
  pub both_checked : (task task' reports reports' : Reading) (sink sink' : Writing) (result : Result X RunFault)
      → Ran (ChecksBoth most rounds is_text task task' reports reports') sink sink' result → IsChecked most task task' reports reports' sink sink' result
  both_checked task task' reports reports' sink sink' result (answer, (t, reads, checks), h) =
      both_counted most task task' reports reports' sink sink' t answer result reads (report_counted reports reports' t answer checks) h

-- a run over a task and a report that is kept whole
pub checked : {X : Type 0} (rounds : Option ℕ) (is_text : Task → Report → X → List ℕ → Type 0) (task task' reports reports' : Reading) (sink sink' : Writing) (result : Result X RunFault)
    → Ran (Checks rounds is_text task task' reports reports') sink sink' result → IsChecked most_bytes task task' reports reports' sink sink' result
checked rounds is_text = both_checked most_bytes rounds is_text
