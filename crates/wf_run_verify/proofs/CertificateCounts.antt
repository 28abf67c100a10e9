-- The counts of a run over a task and a certificate.
use Rattle.std.proofs.Common.{◌≡◌, ◌≤◌, ℕ, List, Option, inl, inr, Result, Ok, Err, refl, sym, ap, ◌∙◌, arith}
use Rattle.wf_model.specs.Limits.{most_bytes}
use Rattle.wf_model.specs.Task.{Task}
use Rattle.wf_base.specs.Streams.Seen.{Reading, Writing}
use Rattle.wf_base.specs.Streams.Texts as io
use Rattle.wf_base.specs.declared.streams.source.ReadFault.{ReadFault}
use Rattle.wf_base.specs.declared.streams.source.ReadFault.TheVariants as read
use Rattle.wf_tree_text.specs.Text.{Obstruction}
use Rattle.wf_run_verify.specs.declared.outcome.Accepted.{Accepted}
use Rattle.wf_run_verify.specs.declared.outcome.Verified.{Verified}
use Rattle.wf_run.specs.declared.fault.RunFault.{RunFault}
use Rattle.wf_run.specs.declared.fault.RunFault.TheVariants as run
use Rattle.wf_run.specs.Run.{Judged, Next, by_result, failed_reads, failed_writes}
use Rattle.wf_run_verify.specs.Verify.{IsAccepted}
use Rattle.wf_run_verify.specs.Certificates.{ChecksCertificate, ChecksCertificateFor, JudgesObstruction, VerifiesCertificate, as_verified, most_behind}
use Rattle.wf_run_verify.specs.Obstructions.{IsObstructionOf}
use Rattle.wf_run.specs.Laws.{IsChecked}
use Rattle.wf_run.proofs.Lemmas.{few, IsReportCounted, both_counted, left_alone}
use Rattle.wf_run_verify.proofs.CheckCounts.{judged_report, verified}
use Rattle.wf_run_verify.proofs.Peeked.{behind_most}

-- a result that tells no failed call
abbrev FailsNone : {X : Type 0} → Result X RunFault → Type 0
FailsNone result = (0 ≡ by_result failed_reads result) × (by_result failed_writes result ≡ 0)

module _ (most : ℕ) (rounds : Option ℕ) (t : Task) where
  judged_obstruction : (o : Obstruction) (answer : Result (Verified × List ℕ) RunFault) → JudgesObstruction rounds t o answer → FailsNone answer
  judged_obstruction o (Ok answer) judges = (refl, refl)
  judged_obstruction o (Err run.Read) judges = absurd judges
  judged_obstruction o (Err run.Write) judges = absurd judges
  judged_obstruction o (Err e) judges = (refl, refl)

  of_obstruction : (given : List ℕ) (o : Result Obstruction RunFault) (answer : Result (Verified × List ℕ) RunFault) → IsObstructionOf given o → Next (JudgesObstruction rounds t) o answer → FailsNone answer
  of_obstruction given (Ok o) answer is next = judged_obstruction o answer next
  of_obstruction given (Err run.Read) answer is next = absurd is
  of_obstruction given (Err run.Write) answer is next = absurd is
  of_obstruction given (Err e) answer is next = (sym (ap (by_result failed_reads) next), ap (by_result failed_writes) next)

  reads_as_verified : (answer : Result (Accepted × List ℕ) RunFault) → by_result failed_reads (as_verified answer) ≡ by_result failed_reads answer
  reads_as_verified (Ok answer) = refl
  reads_as_verified (Err e) = refl

  writes_as_verified : (answer : Result (Accepted × List ℕ) RunFault) → by_result failed_writes (as_verified answer) ≡ by_result failed_writes answer
  writes_as_verified (Ok answer) = refl
  writes_as_verified (Err e) = refl

  of_certificate : (given : List ℕ) (answer : Result (Verified × List ℕ) RunFault) → ChecksCertificate most rounds t given answer → FailsNone answer
  of_certificate given answer (inl (begins, (o, is, next))) = of_obstruction given o answer is next
  of_certificate given answer (inr (begins, (said, (r, is, next), same))) =
      let a = judged_report most (Ok given) r is in
      let b = verified rounds (IsAccepted rounds) t r said next a.1 in
      (a.0 ∙ b.0 ∙ sym (reads_as_verified said) ∙ sym (ap (by_result failed_reads) same), ap (by_result failed_writes) same ∙ writes_as_verified said ∙ b.1)

  judged_certificate : (text : Result (List ℕ) ReadFault) (answer : Result (Verified × List ℕ) RunFault) → Judged (ChecksCertificate most rounds t) text answer
      → (io.failed_reads text ≡ by_result failed_reads answer) × (by_result failed_writes answer ≡ 0)
  judged_certificate (Ok given) answer checks = of_certificate given answer checks
  judged_certificate (Err read.TooLong) answer is = (sym (ap (by_result failed_reads) is), ap (by_result failed_writes) is)
  judged_certificate (Err read.OutOfMemory) answer is = (sym (ap (by_result failed_reads) is), ap (by_result failed_writes) is)
  judged_certificate (Err read.Read) answer is = (sym (ap (by_result failed_reads) is), ap (by_result failed_writes) is)

certificate_counted : (most : ℕ) (rounds : Option ℕ) (source source' : Reading) (t : Result Task RunFault) (answer : Result (Verified × List ℕ) RunFault) → most_bytes ≤ most → ChecksCertificateFor most rounds source source' t answer
    → by_result failed_writes t ≡ 0 → IsReportCounted most source source' t answer
certificate_counted most rounds source source' (Ok t) answer least (text, (given, gave, is), checks) w =
    let a = judged_certificate most rounds t text answer checks in
    let bound = few (most_behind most given) given source'.left text is in
    let limit = behind_most most given least in
    record {
      taken = omega (arith, gave.taken, bound, limit);
      failed = io.failed_reads text;
      failures = gave.failures;
      reads = omega (arith, a.0);
      writes = a.1;
    }
certificate_counted most rounds source source' (Err e) answer least (is, same) w = left_alone most source source' e answer is same w

pub certified : (most : ℕ) (rounds : Option ℕ) (task task' source source' : Reading) (sink sink' : Writing) (result : Result Verified RunFault)
    → most_bytes ≤ most → VerifiesCertificate most rounds task task' source source' sink sink' result → IsChecked most task task' source source' sink sink' result
certified most rounds task task' source source' sink sink' result least (answer, (t, reads, checks), h) =
    both_counted most task task' source source' sink sink' t answer result reads (certificate_counted most rounds source source' t answer least checks) h
