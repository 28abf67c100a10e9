-- The counts of a run.
use Rattle.std.proofs.Common.{◌≡◌, ◌≢◌, ℕ, ◌+◌, ◌≤◌, List, length, Option, Result, Ok, Err, refl, sym, ap, ◌∙◌, arith, IfErr}
use Rattle.wf_model.specs.Task.{Task}
use Rattle.wf_base.specs.Streams.Seen.{Reading, Writing}
use Rattle.wf_base.specs.Streams.Texts.{IsText}
use Rattle.wf_base.specs.Streams.Texts as io
use Rattle.wf_base.specs.declared.streams.source.ReadFault.{ReadFault}
use Rattle.wf_base.specs.declared.streams.source.ReadFault.TheVariants as read
use Rattle.wf_task_parse.specs.declared.fault.TaskFault.{TaskFault}
use Rattle.wf_task_parse.specs.declared.fault.TaskFault.TheVariants as task
use Rattle.wf_model.specs.Limits.{most_bytes}
use Rattle.wf_run.specs.declared.fault.RunFault.{RunFault}
use Rattle.wf_run.specs.declared.fault.RunFault.TheVariants as run
use Rattle.wf_run.specs.Faults.{of_task}
use Rattle.wf_run.specs.Run.{Next, Judged, IsTaskOf, IsBeyondLimits, Answers, Asks, Hands, Ran, failed_reads, failed_writes, by_result}
use Rattle.wf_run.specs.Laws.{IsCounted}

-- a fault of a task's text counts nowhere
pub quiet : (e : TaskFault) → (failed_reads (of_task e) ≡ 0) × (failed_writes (of_task e) ≡ 0)
quiet task.TooLong = (refl, refl)
quiet task.OutOfMemory = (refl, refl)
quiet e = (refl, refl)

pub few : (most : ℕ) (given : List ℕ) (left : Option (List ℕ)) (text : Result (List ℕ) ReadFault) → IsText most given left text → length given ≤ most + 1
few most given left (Ok text) is = let few = is.1 in omega (arith, few)
few most given left (Err read.TooLong) is = omega (arith, is)
few most given left (Err read.OutOfMemory) is = is
few most given left (Err read.Read) is = omega (arith, is)

pub judged : (text : Result (List ℕ) ReadFault) (t : Result Task RunFault) → Judged IsTaskOf text t → (io.failed_reads text ≡ by_result failed_reads t) × (by_result failed_writes t ≡ 0)
judged (Ok text) (Ok t) j = (refl, refl)
judged (Ok text) (Err run.Read) (e, fails, is) = (sym (ap failed_reads is ∙ (quiet e).0), refl)
judged (Ok text) (Err run.Write) (e, fails, is) = (refl, ap failed_writes is ∙ (quiet e).1)
judged (Ok text) (Err e) j = (refl, refl)
judged (Err read.TooLong) t j = (sym (ap (by_result failed_reads) j), ap (by_result failed_writes) j)
judged (Err read.OutOfMemory) t j = (sym (ap (by_result failed_reads) j), ap (by_result failed_writes) j)
judged (Err read.Read) t j = (sym (ap (by_result failed_reads) j), ap (by_result failed_writes) j)

pub beyond : (t : Task) (r : ℕ) (e : RunFault) → IsBeyondLimits t r e → (failed_reads e ≡ 0) × (failed_writes e ≡ 0)
beyond t r run.Read is = absurd is
beyond t r run.Write is = absurd is
beyond t r e is = (refl, refl)

module _ {X : Type 0} (is_text : Task → ℕ → X → List ℕ → Type 0) (r : ℕ) where
  answered : (t : Result Task RunFault) (answer : Result (X × List ℕ) RunFault) → Next (λ t. Answers is_text t r) t answer → by_result failed_writes t ≡ 0
      → (by_result failed_reads t ≡ by_result failed_reads answer) × (by_result failed_writes answer ≡ 0)
  answered (Ok t) (Ok a) n w = (refl, refl)
  answered (Ok t) (Err e) n w = (sym (beyond t r e n).0, (beyond t r e n).1)
  answered (Err e) answer n w = (sym (ap (by_result failed_reads) n), ap (by_result failed_writes) n ∙ w)

-- what holds of a sink after an answer was handed to it
pub record Told {X : Type 0} (old new : Writing) (answer : Result (X × List ℕ) RunFault) (result : Result X RunFault) : Type 0 where
  pub reads : by_result failed_reads answer ≡ by_result failed_reads result
  pub writes : new.failures ≡ old.failures + by_result failed_writes result
  pub unwritten : IfErr result (λ e. e ≢ run.Write → new ≡ old)

unwritten : {X : Type 0} (old new : Writing) (result : Result X RunFault) → new ≡ old → IfErr result (λ e. e ≢ run.Write → new ≡ old)
unwritten old new (Ok x) same = tt
unwritten old new (Err e) same = λ other. same

pub handed : {X : Type 0} (old new : Writing) (answer : Result (X × List ℕ) RunFault) (result : Result X RunFault) → Hands old new answer result → by_result failed_writes answer ≡ 0
    → Told old new answer result
handed old new (Ok a) (Ok x) h w = record { reads = refl; writes = h.1.took.failures; unwritten = tt }
handed old new (Ok a) (Err e) (is, begun) w =
    let (n, short, took) = begun in
    record {
      reads = sym (ap failed_reads is);
      writes = took.failures ∙ ap (λ k. old.failures + k) (sym (ap failed_writes is));
      unwritten = λ other. absurd (other is);
    }
handed old new (Err e) result (is, same) w =
    let quiet_result : by_result failed_writes result ≡ 0 = ap (by_result failed_writes) is ∙ w in
    record {
      reads = sym (ap (by_result failed_reads) is);
      writes = ap (λ s. s.failures) same ∙ omega (arith, quiet_result);
      unwritten = unwritten old new result same;
    }

-- any run over one source, whatever it answers
pub counted : {X : Type 0} (is_text : Task → ℕ → X → List ℕ → Type 0) (rounds : ℕ) (source source' : Reading) (sink sink' : Writing) (result : Result X RunFault)
    → Ran (Asks is_text rounds source source') sink sink' result → IsCounted source source' sink sink' result
counted is_text rounds source source' sink sink' result (answer, (t, (text, (given, gave, is), j), n), h) =
    let a = judged text t j in
    let b = answered is_text rounds t answer n a.1 in
    let c = handed sink sink' answer result h b.1 in
    let bound = few most_bytes given source'.left text is in
    record {
      taken = omega (arith, gave.taken, bound);
      reads = gave.failures ∙ ap (λ k. source.failures + k) (a.0 ∙ b.0 ∙ c.reads);
      writes = c.writes;
      unwritten = c.unwritten;
    }
