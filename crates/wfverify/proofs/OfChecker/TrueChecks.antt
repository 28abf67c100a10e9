-- What status 0 of the checker means.
use Rattle.std.proofs.Common.{◌≡◌, ℕ, Option, inl, inr, Result, Ok, Err, arith}
use Rattle.std.specs.Prelude.{string_bytes}
use Rattle.wf_base.specs.Streams.Seen.{Reading, Writing}
use Rattle.wf_run.specs.declared.fault.RunFault.{RunFault}
use Rattle.wf_run.specs.declared.fault.RunFault.TheVariants.{Read}
use Rattle.wf_run_verify.specs.Certificates.{VerifiesCertificate}
use Rattle.wf_run_verify.specs.declared.outcome.Verified.{Verified}
use Rattle.wf_run_verify.specs.declared.outcome.Verified.TheVariants as verified
use Rattle.wf_run_verify.proofs.Lemmas.{acceptances_true, obstructions_true, reports_verified, refutations_true, hinted_refutations_true}
use Rattle.wf_run_verify.specs.Verify.{most_of}
use Rattle.wf_cli.specs.declared.words.fault.WordsFault.{WordsFault}
use Rattle.wf_cli.specs.Service.Files.{Filing, Opens, state_of, unread}
use Rattle.wf_cli.specs.Service.FileRuns.{WithFile, without_answer}
use Rattle.wf_cli.specs.Service.Refusals.{as_file_refusal}
use Rattle.wf_cli.specs.declared.service.refusal.Refusal.{Refusal}
use Rattle.wf_cli.proofs.OfService.Lemmas.{has_status}
use Rattle.wfverify.specs.declared.checker.job.Check.{Check}
use Rattle.wfverify.specs.declared.checker.job.Check.TheVariants.{Certificate, Proof, HintedProof}
use Rattle.wfverify.specs.declared.checker.job.CheckJob.{CheckJob}
use Rattle.wfverify.specs.Checker.Checker.{Checks, DoesCheck, EndsCheck}
use Rattle.wfverify.specs.Checker.Headline.{IsTrue, IsTrueCertificate, IsTrueOf}

module _ (task task' source source' : Reading) (sink sink' : Writing) where
  of_certificate : (most : ℕ) (rounds : Option ℕ) (answer : Result Verified RunFault) → VerifiesCertificate most rounds task task' source source' sink sink' answer → Ok tt ≡ without_answer answer
      → IsTrueCertificate rounds task task' source source' sink sink'
  of_certificate most rounds (Ok (verified.Report accepted)) does is =
      let said = acceptances_true most rounds task task' source source' sink sink' accepted (reports_verified most rounds task task' source source' sink sink' accepted does) in
      inl (said.0, said.1, said.2, said.3, said.4, said.6)
  of_certificate most rounds (Ok verified.Obstruction) does is = inr (obstructions_true most rounds task task' source source' sink sink' does)
  of_certificate most rounds (Err e) does is = absurd (let bad : ⊥ = cc in bad)

  pub of_check : (check : Check) → Checks check task task' source source' sink sink' (Ok tt) → IsTrue check task task' source source' sink sink'
  of_check (Certificate rounds long) (answer, does, is) = of_certificate (most_of long) rounds answer does is
  of_check (Proof rounds) does = refutations_true rounds task task' source source' sink sink' does
  of_check (HintedProof rounds) does = hinted_refutations_true rounds task task' source source' sink sink' does

module _ {F : Type 0} (opener opener' : Filing F) (source source' : Reading) (sink sink' : Writing) where
  of_run : (opens : Opens) (job : CheckJob) (result : Result (Unit {0}) RunFault) → WithFile (opens (string_bytes job.task)) (Checks job.check) opener opener' source source' sink sink' result
      → Ok tt ≡ as_file_refusal (state_of opener'.kept) result → IsTrueOf (Ok job) opener opener' source source' sink sink'
  of_run opens job (Ok u) (inl (left, file', opened, same, does)) is = (left, file', same, of_check (unread left) file' source source' sink sink' job.check does)
  of_run opens job (Ok u) (inr (gone, same, none, read, wrote)) is = absurd (let bad : ⊥ = cc in bad)
  of_run opens job (Err e) done is = absurd (let bad : ⊥ = cc in bad)

  pub of_status : (opens : Opens) (asked : Result CheckJob WordsFault) (done : Result (Unit {0}) Refusal) (errors errors' : Writing)
      → DoesCheck opens asked opener opener' source source' sink sink' done → EndsCheck errors errors' done 0 → IsTrueOf asked opener opener' source source' sink sink'
  of_status opens (Ok job) (Ok u) errors errors' (result, does, is) ends = of_run opens job result does is
  of_status opens (Err e) (Ok u) errors errors' (same, read, declines) ends = (same, read)
  of_status opens asked (Err e) errors errors' does (is, told) =
      let least = (has_status e).0 in
      absurd (omega (arith, is, least))
