-- The counts of a run over a task and a solver's output.
use Rattle.std.proofs.Common.{◌≡◌, ℕ, ◌+◌, List, Result, Ok, Err, refl, sym, ap, ◌∙◌, arith}
use Rattle.wf_model.specs.Limits.{most_bytes}
use Rattle.wf_model.specs.Task.{Task}
use Rattle.wf_model.specs.Report.{a_map, report_about}
use Rattle.wf_base.specs.Streams.Seen.{Reading, Writing}
use Rattle.wf_base.specs.Streams.Texts as io
use Rattle.wf_base.specs.declared.streams.source.ReadFault.{ReadFault}
use Rattle.wf_base.specs.declared.streams.source.ReadFault.TheVariants as read
use Rattle.wf_run.specs.declared.fault.RunFault.{RunFault}
use Rattle.wf_run.specs.declared.fault.RunFault.TheVariants as run
use Rattle.wf_run.specs.Run.{Judged, Next, failed_reads, failed_writes, by_result}
use Rattle.wf_run.specs.Laws.{IsChecked}
use Rattle.wf_run_verify.specs.Models.{IsMapOf, IsReportText, Models, ReadsMap, ReportsMap}
use Rattle.wf_run.proofs.Lemmas.{few, IsReadCounted, counted_over_two}
use Rattle.wf_run_verify.proofs.CheckCounts.{checks_alone}

module _ (t : Task) (r : ℕ) where
  judged_map : (text : Result (List ℕ) ReadFault) (m : Result (List ℕ) RunFault) → Judged (IsMapOf t r) text m → (io.failed_reads text ≡ by_result failed_reads m) × (by_result failed_writes m ≡ 0)
  judged_map (Ok text) (Ok m) j = (refl, refl)
  judged_map (Ok text) (Err run.Read) j = absurd j
  judged_map (Ok text) (Err run.Write) j = absurd j
  judged_map (Ok text) (Err e) j = (refl, refl)
  judged_map (Err read.TooLong) m j = (sym (ap (by_result failed_reads) j), ap (by_result failed_writes) j)
  judged_map (Err read.OutOfMemory) m j = (sym (ap (by_result failed_reads) j), ap (by_result failed_writes) j)
  judged_map (Err read.Read) m j = (sym (ap (by_result failed_reads) j), ap (by_result failed_writes) j)

  reported : (m : Result (List ℕ) RunFault) (answer : Result (Unit {0} × List ℕ) RunFault) → Next (ReportsMap t r) m answer → by_result failed_writes m ≡ 0
      → (by_result failed_reads m ≡ by_result failed_reads answer) × (by_result failed_writes answer ≡ 0)
  reported (Ok m) answer n w = checks_alone IsReportText t (report_about t r (a_map m)) answer n
  reported (Err e) answer n w = (sym (ap (by_result failed_reads) n), ap (by_result failed_writes) n ∙ w)

  output_counted : (output output' : Reading) (answer : Result (Unit {0} × List ℕ) RunFault) → ReadsMap t r output output' answer → IsReadCounted most_bytes output output' answer
  output_counted output output' answer (m, (text, (given, gave, is), j), n) =
      let a = judged_map text m j in
      let c = reported m answer n a.1 in
      let bound = few most_bytes given output'.left text is in
      record {
        taken = omega (arith, gave.taken, bound);
        failures = gave.failures ∙ ap (λ k. output.failures + k) (a.0 ∙ c.0);
        writes = c.1;
      }

pub modelled : (r : ℕ) (task task' output output' : Reading) (sink sink' : Writing) (result : Result (Unit {0}) RunFault)
    → Models r task task' output output' sink sink' result → IsChecked most_bytes task task' output output' sink sink' result
modelled r = counted_over_two most_bytes ReadsMap r (λ t. output_counted t r)
