-- What is counted of every run of the checker.
use Rattle.std.proofs.Common.{◌≡◌, ℕ, ◌+◌, ◌≤◌, inl, inr, Result, Ok, Err, IfErr, sym, ap, subst, ◌∙◌, arith}
use Rattle.std.specs.Prelude.{◌≢◌, string_bytes}
use Rattle.wf_base.specs.Streams.Seen.{Reading, Writing}
use Rattle.wf_run.specs.declared.fault.RunFault.{RunFault}
use Rattle.wf_run_verify.proofs.Lemmas.{certified, least_most, proved, proved_by_hints}
use Rattle.wf_run_verify.specs.Verify as verify
use Rattle.wf_cli.specs.declared.words.fault.WordsFault.{WordsFault}
use Rattle.wf_cli.specs.Service.Files.{Filing, Opens, state_of}
use Rattle.wf_cli.specs.Service.FileLaws.{Checked, IsFiled, IsFileRun}
use Rattle.wf_cli.proofs.OfService.Lemmas.{counted, unasked, without, calls_of_fault, declined, has_status, two_or_three}
use Rattle.wf_cli.specs.Service.Refusals.{as_file_refusal, fault_status, refusal_status}
use Rattle.wf_cli.specs.declared.service.refusal.Refusal.{Refusal}
use Rattle.wf_cli.specs.Service.Laws.{IsDeclined, calls_by, calls_by_status}
use Rattle.wfverify.specs.declared.checker.job.Check.{Check}
use Rattle.wfverify.specs.declared.checker.job.Check.TheVariants.{Certificate, Proof, HintedProof}
use Rattle.wfverify.specs.declared.checker.job.CheckJob.{CheckJob}
use Rattle.wfverify.specs.Checker.Checker.{Checks, DoesCheck, EndsCheck}
use Rattle.wfverify.specs.Checker.Laws.{IsCheckServed, files_of, most_given, most_of}

-- what is counted of each check
checked : (check : Check) → Checked (most_of check) (Checks check)
checked (Certificate rounds long) task task' source source' sink sink' result (answer, does, is) =
    let most = verify.most_of long in
    without most task task' source source' sink sink' answer result is (certified most rounds task task' source source' sink sink' answer (least_most long) does)
checked (Proof rounds) task task' source source' sink sink' result does = proved rounds task task' source source' sink sink' result does
checked (HintedProof rounds) task task' source source' sink sink' result does = proved_by_hints rounds task task' source source' sink sink' result does

-- what holds of the files, the source and the sink after something was done
record IsDone {F : Type 0} (files most : ℕ) (opener opener' : Filing F) (source source' : Reading) (sink sink' : Writing) (done : Result (Unit {0}) Refusal) : Type 0 where
  failed : ℕ
  filed : IsFiled files opener opener' failed
  failures : source'.failures + sink'.failures + failed ≡ (source.failures + sink.failures) + calls_by done
  taken : source'.taken ≤ source.taken + (most + 1)
  unwritten : IfErr done (λ e. refusal_status e ≢ 4 → sink' ≡ sink)

module _ {F : Type 0} (opener opener' : Filing F) (source source' : Reading) (sink sink' : Writing) where
  of_run : (most : ℕ) (result : Result (Unit {0}) RunFault) → IsFileRun most opener opener' source source' sink sink' result
      → IsDone 1 most opener opener' source source' sink sink' (as_file_refusal (state_of opener'.kept) result)
  of_run most (Ok done) h = record { failed = h.of_file; filed = h.filed; failures = h.failures; taken = h.taken; unwritten = tt }
  of_run most (Err e) h =
      let calls = calls_of_fault e in
      record {
        failed = h.of_file;
        filed = h.filed;
        failures = h.failures ∙ ap (λ n. (source.failures + sink.failures) + n) calls;
        taken = h.taken;
        unwritten = λ other. h.unwritten (λ same. other (ap fault_status same));
      }

  of_words : (most : ℕ) (done : Result (Unit {0}) Refusal) → opener' ≡ opener → source' ≡ source → IsDeclined sink sink' done
      → IsDone 0 most opener opener' source source' sink sink' done
  of_words most done same read h =
      let reads : source'.failures ≡ source.failures = ap (λ s. s.failures) read in
      let takes : source'.taken ≡ source.taken = ap (λ s. s.taken) read in
      let failures = h.failures in
      record { failed = 0; filed = unasked opener opener' same; failures = omega (arith, reads, failures); taken = omega (arith, takes); unwritten = h.unwritten }

did : {F : Type 0} (opens : Opens) (asked : Result CheckJob WordsFault) (opener opener' : Filing F) (source source' : Reading) (sink sink' : Writing) (done : Result (Unit {0}) Refusal)
    → DoesCheck opens asked opener opener' source source' sink sink' done → IsDone (files_of asked) (most_given asked) opener opener' source source' sink sink' done
did opens (Ok job) opener opener' source source' sink sink' done (result, does, is) =
    subst (IsDone 1 (most_of job.check) opener opener' source source' sink sink') (sym is)
    (of_run opener opener' source source' sink sink' (most_of job.check) result
    (counted (most_of job.check) (Checks job.check) (opens (string_bytes job.task)) opener opener' source source' sink sink' result (checked job.check) does))
did opens (Err e) opener opener' source source' sink sink' done (same, read, (program, named, declines)) =
    of_words opener opener' source source' sink sink' (most_given (Err e)) done same read (declined sink sink' program e done declines)

pub served : {F : Type 0} (opens : Opens) (asked : Result CheckJob WordsFault) (opener opener' : Filing F) (source source' : Reading) (sink sink' errors errors' : Writing) (done : Result (Unit {0}) Refusal) (status : ℕ)
    → DoesCheck opens asked opener opener' source source' sink sink' done → EndsCheck errors errors' done status → IsCheckServed asked opener opener' source source' sink sink' errors errors' status
served opens asked opener opener' source source' sink sink' errors errors' (Ok u) status does (is, told) =
    let h = did opens asked opener opener' source source' sink sink' (Ok u) does in
    let none : calls_by_status status ≡ 0 = ap calls_by_status is in
    record {
      statuses = inl is;
      files = (h.failed, h.filed, h.failures ∙ ap (λ n. (source.failures + sink.failures) + n) (sym none));
      taken = h.taken;
      quiet = λ zero. told;
      unwritten = λ bad. absurd (elim bad [ inl two ↦ omega (arith, is) | inr three ↦ omega (arith, is) ]);
    }
served opens asked opener opener' source source' sink sink' errors errors' (Err e) status does (is, told) =
    let h = did opens asked opener opener' source source' sink sink' (Err e) does in
    let range = has_status e in
    record {
      statuses = inr (omega (arith, is, range.0), omega (arith, is, range.1));
      files = (h.failed, h.filed, h.failures ∙ ap (λ n. (source.failures + sink.failures) + calls_by_status n) (sym is));
      taken = h.taken;
      quiet = λ zero. absurd (omega (arith, is, range.0, zero));
      unwritten = λ other. h.unwritten (two_or_three status (refusal_status e) is other);
    }
