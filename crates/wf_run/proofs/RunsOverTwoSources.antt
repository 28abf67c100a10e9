-- A run over a task and another source that ends well, and the counts of one, whatever it answers.
use Rattle.std.proofs.Common.{◌≡◌, ℕ, ◌+◌, ◌≤◌, List, Result, Ok, Err, sym, ap, subst, ◌∙◌, arith}
use Rattle.wf_model.specs.Task.{Task}
use Rattle.wf_base.specs.Streams.Seen.{Reading, Writing}
use Rattle.wf_base.specs.Streams.Texts.{Wrote}
use Rattle.wf_complex.specs.Protocol.{Built}
use Rattle.wf_run.specs.declared.fault.RunFault.{RunFault}
use Rattle.wf_run.specs.Run.{Hands, IsTaskOf, Ran, Reads, failed_reads, failed_writes, by_result}
use Rattle.wf_run.specs.Sources.{AsksBoth, AsksWithin, IsComplexOf, NextReads, ReadsAbout}
use Rattle.wf_run.specs.Given.{GaveTask}
use Rattle.wf_run.specs.Laws.{IsChecked}
use Rattle.wf_run.proofs.Counts.{beyond}
use Rattle.wf_run.proofs.SourceCounts.{IsReportCounted, both_counted, left_alone}
use Rattle.wf_run.proofs.GivenTask.{task_read}

-- ---- where it ends well

-- the task was given, the other source was read about it, and the text that was made was written
pub record IsDone (reads : ReadsAbout) (r : ℕ) (task task' other other' : Reading) (sink sink' : Writing) : Type 0 where
  pub t : Task
  pub text : List ℕ
  pub given : GaveTask task task' t
  pub read : reads t r other other' (Ok (tt, text))
  pub wrote : Wrote sink sink' text

module _ (reads : ReadsAbout) (r : ℕ) (task task' other other' : Reading) (sink sink' : Writing) where
  of_complex : (text : List ℕ) (t : Task) (b : Result Built RunFault) → GaveTask task task' t → NextReads (λ b. reads t r) other other' b (Ok (tt, text)) → Wrote sink sink' text
      → IsDone reads r task task' other other' sink sink'
  of_complex text t (Ok b) gave read wrote = record { t = t; text = text; given = gave; read = read; wrote = wrote }
  of_complex text t (Err e) gave read wrote = absurd (let bad : ⊥ = cc in bad)

  of_task : (text : List ℕ) (t : Result Task RunFault) → Reads IsTaskOf task task' t → NextReads (AsksWithin reads r) other other' t (Ok (tt, text)) → Wrote sink sink' text
      → IsDone reads r task task' other other' sink sink'
  of_task text (Ok t) (said, given, judged) (b, complex, next) wrote = of_complex text t b (task_read task task' said t given judged) next wrote
  of_task text (Err e) given next wrote = absurd (let bad : ⊥ = cc in bad)

  of_answer : (answer : Result (Unit {0} × List ℕ) RunFault) → AsksBoth reads r task task' other other' answer → Hands sink sink' answer (Ok tt) → IsDone reads r task task' other other' sink sink'
  of_answer (Ok (x, text)) (t, given, next) (same, wrote) = of_task text t given (subst (λ y. NextReads (AsksWithin reads r) other other' t (Ok (y, text))) (sym same) next) wrote
  of_answer (Err e) asks hands = absurd (let bad : ⊥ = cc in bad)

  pub done : Ran (AsksBoth reads r task task' other other') sink sink' (Ok tt) → IsDone reads r task task' other other' sink sink'
  done (answer, asks, hands) = of_answer answer asks hands

-- ---- what is counted

-- what is counted of the other source where it is read
pub record IsReadCounted (most : ℕ) (old new : Reading) (answer : Result (Unit {0} × List ℕ) RunFault) : Type 0 where
  pub taken : new.taken ≤ old.taken + (most + 1)
  pub failures : new.failures ≡ old.failures + by_result failed_reads answer
  pub writes : by_result failed_writes answer ≡ 0

module _ (most : ℕ) (reads : ReadsAbout) (r : ℕ)
    (counts : (t : Task) (old new : Reading) (answer : Result (Unit {0} × List ℕ) RunFault) → reads t r old new answer → IsReadCounted most old new answer) where
  complex_counted : (t : Task) (old new : Reading) (b : Result Built RunFault) (answer : Result (Unit {0} × List ℕ) RunFault) → IsComplexOf t r b → NextReads (λ b. reads t r) old new b answer
      → IsReadCounted most old new answer
  complex_counted t old new (Ok b) answer is read = counts t old new answer read
  complex_counted t old new (Err e) answer is (refused, same) =
      let takes : new.taken ≡ old.taken = ap (λ s. s.taken) same in
      let fails : new.failures ≡ old.failures = ap (λ s. s.failures) same in
      let none : by_result failed_reads answer ≡ 0 = ap (by_result failed_reads) refused ∙ (beyond t r e is).0 in
      record { taken = omega (arith, takes); failures = omega (arith, fails, none); writes = ap (by_result failed_writes) refused ∙ (beyond t r e is).1 }

  task_counted : (other other' : Reading) (t : Result Task RunFault) (answer : Result (Unit {0} × List ℕ) RunFault) → NextReads (AsksWithin reads r) other other' t answer → by_result failed_writes t ≡ 0
      → IsReportCounted most other other' t answer
  task_counted other other' (Ok t) answer (b, complex, next) w =
      let c = complex_counted t other other' b answer complex next in
      record { taken = c.taken; failed = by_result failed_reads answer; failures = c.failures; reads = omega arith; writes = c.writes }
  task_counted other other' (Err e) answer (is, same) w = left_alone most other other' e answer is same w

  pub counted_over_two : (task task' other other' : Reading) (sink sink' : Writing) (result : Result (Unit {0}) RunFault)
      → Ran (AsksBoth reads r task task' other other') sink sink' result → IsChecked most task task' other other' sink sink' result
  counted_over_two task task' other other' sink sink' result (answer, (t, given, next), h) =
      both_counted most task task' other other' sink sink' t answer result given (task_counted other other' t answer next) h
