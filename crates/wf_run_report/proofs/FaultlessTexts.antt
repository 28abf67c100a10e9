-- A check of the text of a report without a fault accepts it.
use Rattle.std.proofs.Common.{◌≡◌, ◌≤◌, ℕ, List, length, inl, inr, Option, Some, None, Result, Ok, Err, sym, subst, arith}
use Rattle.wf_model.specs.Task.{Task}
use Rattle.wf_model.specs.Report.{Report, report_of, report_text}
use Rattle.wf_model.specs.Check.{report_fault}
use Rattle.wf_model.specs.Limits.{most_bytes}
use Rattle.wf_complex.specs.declared.fault.BuildFault.TheVariants as build
use Rattle.wf_report.specs.Grammar.{IsInGrammar}
use Rattle.wf_report.specs.declared.fault.CertFault.TheVariants as amiss
use Rattle.wf_report.proofs.Lemmas.{written_read}
use Rattle.wf_run_verify.proofs.Lemmas.{few_lines, unrefused}
use Rattle.wf_run_verify.specs.declared.outcome.Accepted.{Accepted}
use Rattle.wf_run.specs.declared.fault.RunFault.{RunFault}
use Rattle.wf_run.specs.declared.fault.RunFault.TheVariants as run
use Rattle.wf_run_verify.specs.Verify.{ChecksText, IsAccepted, IsFaultless, IsVerified, IsVerifiedFor, accepted_of}
use Rattle.wf_run_verify.specs.Headline.{AreAsked}
use Rattle.wf_run_verify.specs.Laws.{Accepts}

module _ (t : Task) (r : Report) (faultless : IsFaultless t r) where
  -- the answer about a report without a fault
  accepts : (rounds : Option ℕ) (answer : Result (Accepted × List ℕ) RunFault) → IsVerified (IsAccepted rounds) t r answer → Accepts (accepted_of r.body) answer
  accepts rounds (Ok answer) is = is.1.0
  accepts rounds (Err run.OutOfMemory) is = tt
  accepts rounds (Err (run.Cert amiss.OutOfMemory)) is = absurd is
  accepts rounds (Err (run.Cert e)) is = unrefused e (report_fault t r.rounds r) faultless.faultless (λ same. let bad : ⊥ = cc in bad) is.1
  accepts rounds (Err (run.Build build.Rounds)) is = absurd (omega (arith, faultless.within.1.0, is))
  accepts rounds (Err (run.Build build.TooManyExecutions)) is = absurd (omega (arith, faultless.within.1.1, is.1))
  accepts rounds (Err (run.Build build.OutOfMemory)) is = absurd is
  accepts rounds (Err e) is = absurd is

  -- the same where it is asked for its own rounds
  accepts_for : (rounds : Option ℕ) (answer : Result (Accepted × List ℕ) RunFault) → AreAsked rounds r.rounds → IsVerifiedFor rounds (IsAccepted rounds) t r answer → Accepts (accepted_of r.body) answer
  accepts_for None answer asked is = accepts None answer is
  accepts_for (Some rounds) answer asked (inl (same, is)) = accepts (Some rounds) answer is
  accepts_for (Some rounds) answer asked (inr (other, is)) = absurd (other asked)

  -- the answer about its text
  pub accepts_text : (rounds : Option ℕ) (answer : Result (Accepted × List ℕ) RunFault) → AreAsked rounds r.rounds → IsInGrammar r → length (report_text r) ≤ most_bytes
      → ChecksText most_bytes rounds t (report_text r) answer → Accepts (accepted_of r.body) answer
  accepts_text rounds answer asked grammar few (Ok read, is, next) =
      let known : report_of (report_text r) ≡ Ok r = written_read r grammar in
      let same : read ≡ r = cc in
      accepts_for rounds answer asked (subst (λ x. IsVerifiedFor rounds (IsAccepted rounds) t x answer) same next)
  accepts_text rounds answer asked grammar few (Err (run.Cert (amiss.Syntax k)), is, next) =
      let known : report_of (report_text r) ≡ Ok r = written_read r grammar in
      absurd (let bad : ⊥ = cc in bad)
  accepts_text rounds answer asked grammar few (Err run.TooLong, inl is, next) = absurd (omega (arith, few, is))
  accepts_text rounds answer asked grammar few (Err run.TooLong, inr is, next) = absurd (let lines = few_lines (report_text r) in omega (arith, few, is, lines))
  accepts_text rounds answer asked grammar few (Err run.OutOfMemory, is, next) = subst (Accepts (accepted_of r.body)) (sym next) tt
  accepts_text rounds answer asked grammar few (Err e, is, next) = absurd is
