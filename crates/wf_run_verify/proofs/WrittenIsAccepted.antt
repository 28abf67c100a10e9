-- The text of a report without a fault is accepted.
use Rattle.std.proofs.Common.{◌≡◌, ◌≤◌, ◌==◌, ℕ, suc, Bool, true, false, cond, List, [], ◌∷◌, length, inl, inr, Option, Some, None, Result, Ok, Err, refl, sym, subst, arith}
use Rattle.wf_model.specs.Task.{Task, IsTask}
use Rattle.wf_model.specs.View.{View}
use Rattle.wf_model.specs.DecisionMap.{IsDecisionMap, listed}
use Rattle.wf_model.specs.Report.{Report, Body, a_map, lines_of, onto_first, report_of, report_text, report_about}
use Rattle.wf_model.specs.Check.{Refusal, report_fault}
use Rattle.wf_model.proofs.Lemmas.{map_accepted}
use Rattle.wf_model.specs.Limits.{most_bytes}
use Rattle.wf_complex.specs.declared.fault.BuildFault.TheVariants as build
use Rattle.wf_report.specs.Grammar.{IsInGrammar}
use Rattle.wf_report_check.specs.Faults.{Fails}
use Rattle.wf_report.specs.declared.fault.CertFault.{CertFault}
use Rattle.wf_report.specs.declared.fault.CertFault.TheVariants as amiss
use Rattle.wf_report.proofs.Lemmas.{written_read}
use Rattle.wf_run_verify.specs.declared.outcome.Accepted.{Accepted}
use Rattle.wf_run_verify.specs.declared.outcome.Accepted.TheVariants as accepted
use Rattle.wf_run.specs.declared.fault.RunFault.{RunFault}
use Rattle.wf_run.specs.declared.fault.RunFault.TheVariants as run
use Rattle.wf_run.specs.Run.{HasComplex}
use Rattle.wf_run.specs.Texts.{text_of_report}
use Rattle.wf_run_verify.specs.Verify.{ChecksText, IsAccepted, IsVerified, IsVerifiedFor, accepted_of}
use Rattle.wf_run_verify.specs.Headline.{AreAsked}
use Rattle.wf_run_verify.specs.Laws.{Accepts}
use Rattle.wf_run_verify.proofs.WrittenReports.{map_within}

-- a text has no more lines than bytes
pub few_lines : (text : List ℕ) → length (lines_of text) ≤ length text
few_lines [] = omega arith
few_lines (b ∷ text) = by_first (b == 10) (lines_of text) (few_lines text)
  where
    by_lines : (ls : List (List ℕ)) → length ls ≤ length text → length (onto_first b ls) ≤ suc (length text)
    by_lines [] few = omega arith
    by_lines (l ∷ ls) few = omega (arith, few)

    by_first : (t : Bool) (ls : List (List ℕ)) → length ls ≤ length text → length (cond t ((b ∷ []) ∷ ls) (onto_first b ls)) ≤ suc (length text)
    by_first true ls few = omega (arith, few)
    by_first false ls few = by_lines ls few

-- a report without a fault has none that is named
unnamed : {P : Type 0} (found : Option Refusal) (f : Refusal) → found ≡ None → found ≡ Some f → P
unnamed found f clear is = absurd (let bad : ⊥ = cc in bad)

-- nothing is refused for a fault that is none
pub unrefused : {P : Type 0} (e : CertFault) (found : Option Refusal) → found ≡ None → (e ≡ amiss.OutOfMemory → ⊥) → Fails e found → P
unrefused amiss.TooLong found clear other fails = absurd fails
unrefused (amiss.Syntax k) found clear other fails = absurd fails
unrefused (amiss.Header k) found clear other fails = unnamed found _ clear fails
unrefused amiss.MapLength found clear other fails = unnamed found _ clear fails
unrefused (amiss.Violates k) found clear other fails = unnamed found _ clear fails
unrefused (amiss.NoSuch k) found clear other fails = unnamed found _ clear fails
unrefused (amiss.Unsound k) found clear other fails = unnamed found _ clear fails
unrefused (amiss.NotEmpty k) found clear other fails = unnamed found _ clear fails
unrefused (amiss.NotOpen k) found clear other fails = unnamed found _ clear fails
unrefused amiss.Unfinished found clear other fails = unnamed found _ clear fails
unrefused (amiss.Trailing k) found clear other fails = unnamed found _ clear fails
unrefused (amiss.NotFirst k) found clear other fails = unnamed found _ clear fails
unrefused (amiss.NotTheMap k) found clear other fails = unnamed found _ clear fails
unrefused amiss.OutOfMemory found clear other fails = absurd (other refl)

-- the answer about a report without a fault
faultless : (rounds : Option ℕ) (t : Task) (report : Report) (answer : Result (Accepted × List ℕ) RunFault) → HasComplex t report.rounds → report_fault t report.rounds report ≡ None
    → IsVerified (IsAccepted rounds) t report answer → Accepts (accepted_of report.body) answer
faultless rounds t report (Ok answer) within clear is = is.1.0
faultless rounds t report (Err run.OutOfMemory) within clear is = tt
faultless rounds t report (Err (run.Cert amiss.OutOfMemory)) within clear is = absurd is
faultless rounds t report (Err (run.Cert e)) within clear is = unrefused e (report_fault t report.rounds report) clear (λ same. let bad : ⊥ = cc in bad) is.1
faultless rounds t report (Err (run.Build build.Rounds)) (b, built) clear is = absurd (omega (arith, built.0, is))
faultless rounds t report (Err (run.Build build.TooManyExecutions)) (b, built) clear is = absurd (omega (arith, built.1, is.1))
faultless rounds t report (Err (run.Build build.OutOfMemory)) within clear is = absurd is
faultless rounds t report (Err e) within clear is = absurd is

-- the same where it is asked for its own rounds
faultless_for : (rounds : Option ℕ) (t : Task) (report : Report) (answer : Result (Accepted × List ℕ) RunFault) → AreAsked rounds report.rounds → HasComplex t report.rounds
    → report_fault t report.rounds report ≡ None → IsVerifiedFor rounds (IsAccepted rounds) t report answer → Accepts (accepted_of report.body) answer
faultless_for None t report answer asked within clear is = faultless None t report answer within clear is
faultless_for (Some rounds) t report answer asked within clear (inl (same, is)) = faultless (Some rounds) t report answer within clear is
faultless_for (Some rounds) t report answer asked within clear (inr (other, is)) = absurd (other asked)

-- the answer about the text of such a report
text_accepted : (rounds : Option ℕ) (t : Task) (report : Report) (answer : Result (Accepted × List ℕ) RunFault) → AreAsked rounds report.rounds → IsInGrammar report → length (report_text report) ≤ most_bytes → HasComplex t report.rounds
    → report_fault t report.rounds report ≡ None → ChecksText most_bytes rounds t (report_text report) answer → Accepts (accepted_of report.body) answer
text_accepted rounds t report answer asked grammar short within clear (Ok read, is, next) =
    let known : report_of (report_text report) ≡ Ok report = written_read report grammar in
    let same : read ≡ report = cc in
    faultless_for rounds t report answer asked within clear (subst (λ r. IsVerifiedFor rounds (IsAccepted rounds) t r answer) same next)
text_accepted rounds t report answer asked grammar short within clear (Err (run.Cert (amiss.Syntax k)), is, next) =
    let known : report_of (report_text report) ≡ Ok report = written_read report grammar in
    absurd (let bad : ⊥ = cc in bad)
text_accepted rounds t report answer asked grammar short within clear (Err run.TooLong, inl is, next) = absurd (omega (arith, short, is))
text_accepted rounds t report answer asked grammar short within clear (Err run.TooLong, inr is, next) = absurd (let lines = few_lines (report_text report) in omega (arith, short, is, lines))
text_accepted rounds t report answer asked grammar short within clear (Err run.OutOfMemory, is, next) = subst (Accepts (accepted_of report.body)) (sym next) tt
text_accepted rounds t report answer asked grammar short within clear (Err e, is, next) = absurd is

module _ (t : Task) (r : ℕ) where
  -- what is answered about the text of a report with this body
  pub body_accepted : (rounds : Option ℕ) (body : Body) (text : List ℕ) (answer : Result (Accepted × List ℕ) RunFault) → AreAsked rounds r → IsInGrammar (report_about t r body) → HasComplex t r → report_fault t r (report_about t r body) ≡ None
      → text ≡ text_of_report t r body → length text ≤ most_bytes → ChecksText most_bytes rounds t text answer → Accepts (accepted_of body) answer
  unfolding text_of_report
  body_accepted rounds body text answer asked grammar within clear is short checks =
      text_accepted rounds t (report_about t r body) answer asked grammar (subst (λ x. length x ≤ most_bytes) is short) within clear (subst (λ x. ChecksText most_bytes rounds t x answer) is checks)

  pub map_text_accepted : (rounds : Option ℕ) (m : View → ℕ) (text : List ℕ) (answer : Result (Accepted × List ℕ) RunFault) → AreAsked rounds r → IsTask t → HasComplex t r → IsDecisionMap t r m
      → text ≡ text_of_report t r (a_map (listed t r m)) → length text ≤ most_bytes → ChecksText most_bytes rounds t text answer → Accepts accepted.Map answer
  map_text_accepted rounds m text answer asked task within decides is short checks =
      body_accepted rounds (a_map (listed t r m)) text answer asked (map_within t r task within m decides) within (map_accepted t r m decides) is short checks
