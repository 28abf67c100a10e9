-- The counts of a run that explains a certificate.
use Rattle.std.proofs.Common.{◌≡◌, ℕ, List, None, inl, inr, Result, Ok, Err, refl, sym, ap, ◌∙◌, arith}
use Rattle.wf_model.specs.Limits.{most_bytes}
use Rattle.wf_model.specs.Task.{Task}
use Rattle.wf_base.specs.Streams.Seen.{Reading, Writing}
use Rattle.wf_base.specs.Streams.Texts as io
use Rattle.wf_base.specs.declared.streams.source.ReadFault.{ReadFault}
use Rattle.wf_base.specs.declared.streams.source.ReadFault.TheVariants as read
use Rattle.wf_tree_text.specs.Text.{Obstruction}
use Rattle.wf_run.specs.declared.fault.RunFault.{RunFault}
use Rattle.wf_run.specs.declared.fault.RunFault.TheVariants as run
use Rattle.wf_run.specs.Run.{Judged, Next, by_result, failed_reads, failed_writes}
use Rattle.wf_run_verify.specs.Obstructions.{IsObstructionOf}
use Rattle.wf_run.specs.Laws.{IsChecked}
use Rattle.wf_run.proofs.Lemmas.{few, IsReportCounted, both_counted, left_alone}
use Rattle.wf_run_verify.proofs.Lemmas.{judged_report, verified}
use Rattle.wf_run_report.specs.Explaining.{AreExplained, Explains, ExplainsFor, ExplainsText, TellsObstruction}

-- a result that tells no failed call
abbrev FailsNone : {X : Type 0} → Result X RunFault → Type 0
FailsNone result = (0 ≡ by_result failed_reads result) × (by_result failed_writes result ≡ 0)

module _ (t : Task) where
  judged_obstruction : (o : Obstruction) (answer : Result (Unit {0} × List ℕ) RunFault) → TellsObstruction t o answer → FailsNone answer
  judged_obstruction o (Ok answer) tells = (refl, refl)
  judged_obstruction o (Err run.Read) tells = absurd tells
  judged_obstruction o (Err run.Write) tells = absurd tells
  judged_obstruction o (Err e) tells = (refl, refl)

  of_obstruction : (given : List ℕ) (o : Result Obstruction RunFault) (answer : Result (Unit {0} × List ℕ) RunFault) → IsObstructionOf given o → Next (TellsObstruction t) o answer → FailsNone answer
  of_obstruction given (Ok o) answer is next = judged_obstruction o answer next
  of_obstruction given (Err run.Read) answer is next = absurd is
  of_obstruction given (Err run.Write) answer is next = absurd is
  of_obstruction given (Err e) answer is next = (sym (ap (by_result failed_reads) next), ap (by_result failed_writes) next)

  of_text : (given : List ℕ) (answer : Result (Unit {0} × List ℕ) RunFault) → ExplainsText t given answer → FailsNone answer
  of_text given answer (inl (begins, (o, is, next))) = of_obstruction given o answer is next
  of_text given answer (inr (begins, (r, is, next))) =
      let a = judged_report most_bytes (Ok given) r is in
      let b = verified None AreExplained t r answer next a.1 in
      (a.0 ∙ b.0, b.1)

  judged_text : (text : Result (List ℕ) ReadFault) (answer : Result (Unit {0} × List ℕ) RunFault) → Judged (ExplainsText t) text answer
      → (io.failed_reads text ≡ by_result failed_reads answer) × (by_result failed_writes answer ≡ 0)
  judged_text (Ok given) answer explains = of_text given answer explains
  judged_text (Err read.TooLong) answer is = (sym (ap (by_result failed_reads) is), ap (by_result failed_writes) is)
  judged_text (Err read.OutOfMemory) answer is = (sym (ap (by_result failed_reads) is), ap (by_result failed_writes) is)
  judged_text (Err read.Read) answer is = (sym (ap (by_result failed_reads) is), ap (by_result failed_writes) is)

source_counted : (source source' : Reading) (t : Result Task RunFault) (answer : Result (Unit {0} × List ℕ) RunFault) → ExplainsFor source source' t answer
    → by_result failed_writes t ≡ 0 → IsReportCounted most_bytes source source' t answer
source_counted source source' (Ok t) answer (text, (given, gave, is), explains) w =
    let a = judged_text t text answer explains in
    let bound = few most_bytes given source'.left text is in
    record {
      taken = omega (arith, gave.taken, bound);
      failed = io.failed_reads text;
      failures = gave.failures;
      reads = omega (arith, a.0);
      writes = a.1;
    }
source_counted source source' (Err e) answer (is, same) w = left_alone most_bytes source source' e answer is same w

pub explained_counted : (task task' source source' : Reading) (sink sink' : Writing) (result : Result (Unit {0}) RunFault)
    → Explains task task' source source' sink sink' result → IsChecked most_bytes task task' source source' sink sink' result
explained_counted task task' source source' sink sink' result (answer, (t, reads, explains), h) =
    both_counted most_bytes task task' source source' sink sink' t answer result reads (source_counted source source' t answer explains) h
