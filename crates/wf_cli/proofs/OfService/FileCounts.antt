-- What is counted of runs with the task in a file.
use Rattle.std.proofs.Common.{◌≡◌, ℕ, ◌+◌, inl, inr, List, Option, Some, Result, Ok, Err, sym, ap, subst, arith}
use Rattle.wf_base.specs.Streams.Seen.{Reading, Writing}
use Rattle.wf_run.specs.declared.fault.RunFault.{RunFault}
use Rattle.wf_run.specs.declared.fault.RunFault.TheVariants.{Read}
use Rattle.wf_run.specs.Laws.{IsChecked}
use Rattle.wf_cli.specs.Service.Files.{Filing, Opening, after_asking, unread}
use Rattle.wf_cli.specs.Service.FileRuns.{DoesBoth, WithFile, without_answer}
use Rattle.wf_cli.specs.Service.FileLaws.{Checked, IsFiled, IsFileRun}

-- what is counted of a run is counted of it without its answer
pub without : {X : Type 0} (most : ℕ) (task task' source source' : Reading) (sink sink' : Writing) (answer : Result X RunFault) (result : Result (Unit {0}) RunFault)
    → result ≡ without_answer answer → IsChecked most task task' source source' sink sink' answer → IsChecked most task task' source source' sink sink' result
without most task task' source source' sink sink' (Ok x) result is h =
    subst (IsChecked most task task' source source' sink sink') (sym is)
    (record { task_taken = h.task_taken; report_taken = h.report_taken; reads = h.reads; writes = h.writes; unwritten = tt })
without most task task' source source' sink sink' (Err e) result is h =
    subst (IsChecked most task task' source source' sink sink') (sym is)
    (record { task_taken = h.task_taken; report_taken = h.report_taken; reads = h.reads; writes = h.writes; unwritten = h.unwritten })

-- what holds of a opener from which no file was asked for
pub unasked : {F : Type 0} (opener opener' : Filing F) → opener' ≡ opener → IsFiled 0 opener opener' 0
unasked opener opener' same =
    subst (λ f. IsFiled 0 opener f 0) (sym same)
    (record { opens = omega arith; taken = omega arith; failures = omega arith })

-- from a file that was opened, with what was read of it
module _ {F : Type 0} (most : ℕ) (opener opener' : Filing F) (left : Option (List ℕ)) (file' source source' : Reading) (sink sink' : Writing) where
  opened_one : (failed : ℕ) → opener' ≡ after_asking opener 0 (Some file') → file'.failures ≡ (unread left).failures + failed
      → {X : Type 0} (result : Result X RunFault) → IsChecked most (unread left) file' source source' sink sink' result → IsFiled 1 opener opener' failed
  opened_one failed same failures result h =
      let taken = h.task_taken in
      subst (λ f. IsFiled 1 opener f failed) (sym same)
      (record { opens = omega arith; taken = omega (arith, taken); failures = omega (arith, failures) })

  checked_run : (result : Result (Unit {0}) RunFault) → opener' ≡ after_asking opener 0 (Some file') → IsChecked most (unread left) file' source source' sink sink' result
      → IsFileRun most opener opener' source source' sink sink' result
  checked_run (Ok done) same h =
      let all = h.reads.all in
      let others = h.reads.report_failures in
      record {
        of_file = h.reads.of_task;
        filed = opened_one h.reads.of_task same h.reads.task_failures (Ok done) h;
        taken = h.report_taken;
        failures = omega (arith, all, others, h.writes);
        unwritten = tt;
      }
  checked_run (Err e) same h =
      let all = h.reads.all in
      let others = h.reads.report_failures in
      record {
        of_file = h.reads.of_task;
        filed = opened_one h.reads.of_task same h.reads.task_failures (Err e) h;
        taken = h.report_taken;
        failures = omega (arith, all, others, h.writes);
        unwritten = h.unwritten;
      }

pub counted : {F : Type 0} (most : ℕ) (does : DoesBoth (Unit {0})) (comes : Opening → Type 0) (opener opener' : Filing F) (source source' : Reading) (sink sink' : Writing) (result : Result (Unit {0}) RunFault)
    → Checked most does → WithFile comes does opener opener' source source' sink sink' result → IsFileRun most opener opener' source source' sink sink' result
counted most does comes opener opener' source source' sink sink' result checks (inl (left, file', opens, same, did)) =
    checked_run most opener opener' left file' source source' sink sink' result same (checks (unread left) file' source source' sink sink' result did)
counted most does comes opener opener' source source' sink sink' result checks (inr (gone, same, none, read, wrote)) =
    let reads : source'.failures ≡ source.failures = ap (λ s. s.failures) read in
    let writes : sink'.failures ≡ sink.failures = ap (λ s. s.failures) wrote in
    let takes : source'.taken ≡ source.taken = ap (λ s. s.taken) read in
    subst (IsFileRun most opener opener' source source' sink sink') (sym none)
    (record {
      of_file = 1;
      filed = subst (λ f. IsFiled 1 opener f 1) (sym same) (record { opens = omega arith; taken = omega arith; failures = omega arith });
      taken = omega (arith, takes);
      failures = omega (arith, reads, writes);
      unwritten = λ other. wrote;
    })
