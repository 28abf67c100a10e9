-- What is counted of refusals, and of words that make no job.
use Rattle.std.proofs.Common.{◌≡◌, ◌≢◌, ℕ, zero, suc, ◌+◌, ◌≤◌, ◌⊎◌, inl, inr, Option, Some, None, Result, Ok, Err, refl, sym, ap, subst, ◌∙◌, arith}
use Rattle.std.specs.Prelude.{List}
use Rattle.wf_base.specs.Streams.Seen.{Writing}
use Rattle.wf_cli.specs.declared.words.fault.WordsFault.{WordsFault}
use Rattle.wf_cli.specs.declared.words.fault.WordsFault.TheVariants as words
use Rattle.wf_run.specs.declared.fault.RunFault.{RunFault}
use Rattle.wf_run.specs.declared.fault.RunFault.TheVariants as run
use Rattle.wf_run.specs.Run.{failed_reads, failed_writes, by_result}
use Rattle.wf_run.proofs.Lemmas.{Told, handed}
use Rattle.wf_cli.specs.declared.service.files.FileState.{FileState}
use Rattle.wf_cli.specs.declared.service.refusal.Program.{Program}
use Rattle.wf_cli.specs.declared.service.refusal.Refusal.{Refusal}
use Rattle.wf_cli.specs.declared.service.refusal.Refusal.TheVariants as refusal
use Rattle.wf_cli.specs.Service.Refusals.{as_refusal, fault_status, refusal_status}
use Rattle.wf_cli.specs.Service.Showing.{Declines, IsShown, Shows}
use Rattle.wf_cli.specs.Service.VersionText.{version_line}
use Rattle.wf_cli.specs.Service.Laws.{HasStatus, IsDeclined, calls_by_status}

-- ---- the status of a refusal

of_fault : (e : RunFault) → HasStatus (refusal.Run e)
of_fault run.OutOfMemory = (omega arith, omega arith)
of_fault run.Read = (omega arith, omega arith)
of_fault run.Write = (omega arith, omega arith)
of_fault e = (omega arith, omega arith)

of_file_fault : (e : RunFault) (file : FileState) → HasStatus (refusal.RunWithFile e file)
of_file_fault run.OutOfMemory file = (omega arith, omega arith)
of_file_fault run.Read file = (omega arith, omega arith)
of_file_fault run.Write file = (omega arith, omega arith)
of_file_fault e file = (omega arith, omega arith)

pub has_status : (e : Refusal) → HasStatus e
has_status (refusal.Run e) = of_fault e
has_status (refusal.RunWithFile e file) = of_file_fault e file
has_status (refusal.Words mistake) = (omega arith, omega arith)
has_status (refusal.Clap e negative program) = (omega arith, omega arith)

-- a failed read or write is told by status 4
pub calls_of_fault : (e : RunFault) → failed_reads e + failed_writes e ≡ calls_by_status (fault_status e)
calls_of_fault run.OutOfMemory = refl
calls_of_fault run.Read = refl
calls_of_fault run.Write = refl
calls_of_fault e = refl

-- no call failed by another status
pub none_failed : (status : ℕ) → status ≤ 2 → calls_by_status status ≡ 0
none_failed zero h = refl
none_failed (suc zero) h = refl
none_failed (suc (suc zero)) h = refl
none_failed (suc (suc (suc n))) h = absurd (omega arith)

pub two_or_three : (a b : ℕ) → a ≡ b → (a ≡ 2) ⊎ (a ≡ 3) → b ≢ 4
two_or_three a b is (inl two) four = omega arith
two_or_three a b is (inr three) four = omega arith

-- ---- words that make no job

module _ (sink sink' : Writing) where
  quiet : (text : Option (List ℕ)) (answer : Result (Unit {0} × List ℕ) RunFault) → IsShown text answer → (by_result failed_reads answer ≡ 0) × (by_result failed_writes answer ≡ 0)
  quiet text (Ok answer) asks = (refl, refl)
  quiet text (Err e) asks = (ap failed_reads asks, ap failed_writes asks)

  written : (answer : Result (Unit {0} × List ℕ) RunFault) (result : Result (Unit {0}) RunFault) → by_result failed_reads result ≡ 0 → Told sink sink' answer result → IsDeclined sink sink' (as_refusal result)
  written answer (Ok done) none h =
      let writes = h.writes in
      record { failures = omega (arith, writes); unwritten = tt; statuses = tt }
  written answer (Err e) none h =
      let writes = h.writes in
      let calls = calls_of_fault e in
      record { failures = omega (arith, none, writes, calls); unwritten = λ other. h.unwritten (λ same. other (ap fault_status same)); statuses = of_fault e }

  shown : (text : Option (List ℕ)) (done : Result (Unit {0}) Refusal) → Shows text sink sink' done → IsDeclined sink sink' done
  shown text done (result, (answer, asks, h), is) =
      let none = quiet text answer asks in
      let told = handed sink sink' answer result h none.1 in
      subst (IsDeclined sink sink') (sym is) (written answer result (sym told.reads ∙ none.0) told)

  untouched : (e : Refusal) → calls_by_status (refusal_status e) ≡ 0 → sink' ≡ sink → IsDeclined sink sink' (Err e)
  untouched e none same =
      let writes : sink'.failures ≡ sink.failures = ap (λ s. s.failures) same in
      record { failures = omega (arith, writes, none); unwritten = λ other. same; statuses = has_status e }

  pub declined : (program : Program) (e : WordsFault) (done : Result (Unit {0}) Refusal) → Declines program e sink sink' done → IsDeclined sink sink' done
  declined program (words.Clap e negative) done (inl (help, shows)) = shown None done shows
  declined program (words.Clap e negative) done (inr (inl (version, shows))) = shown (Some (version_line program.name.now)) done shows
  declined program (words.Clap e negative) done (inr (inr (mistake, is, same))) = subst (IsDeclined sink sink') (sym is) (untouched (refusal.Clap e negative program) refl same)
  declined program (words.Words mistake) done (is, same) = subst (IsDeclined sink sink') (sym is) (untouched (refusal.Words mistake) refl same)
  declined program words.OutOfMemory done (is, same) = subst (IsDeclined sink sink') (sym is) (untouched (refusal.Run run.OutOfMemory) refl same)
