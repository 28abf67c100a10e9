-- What a trimming writes is true and accepted.
use Rattle.std.proofs.Common.{◌≡◌, ◌≤◌, ℕ, List, length, None, Result, Ok, Err, refl, sym, ap, subst, ◌∙◌, arith}
use Rattle.wf_model.specs.Limits.{most_bytes}
use Rattle.wf_model.specs.Task.{Task}
use Rattle.wf_model.specs.Report.{Report, report_about, report_text}
use Rattle.wf_base.specs.Streams.Seen.{Reading, Writing}
use Rattle.wf_base.specs.Streams.Texts.{Gave, ReadsText, Wrote}
use Rattle.wf_base.specs.declared.streams.source.ReadFault.{ReadFault}
use Rattle.wf_report.specs.Grammar.{IsTextOf}
use Rattle.wf_report.proofs.Lemmas.{read_written, written_read}
use Rattle.wf_report_check.specs.Truth.{HoldsOf}
use Rattle.wf_run.specs.declared.fault.RunFault.{RunFault}
use Rattle.wf_run.specs.Run.{Hands, IsTaskOf, Judged, Next, Reads}
use Rattle.wf_run.specs.Texts.{text_of_report}
use Rattle.wf_run_verify.specs.Verify.{Checks, ChecksFor, IsFaultless, IsReportOf, IsVerifiedFor}
use Rattle.wf_run_verify.specs.Headline.{AreAsked}
use Rattle.wf_run.specs.Given.{GaveTask}
use Rattle.wf_run.proofs.Lemmas.{task_read}
use Rattle.wf_run_report.specs.Trimming.{AreMade, IsShortened}
use Rattle.wf_run_report.specs.Trimmed.{IsAcceptedText, IsGoodText, TrimmedReportsAreAccepted}
use Rattle.wf_run_verify.proofs.Lemmas.{about}
use Rattle.wf_run_report.proofs.TrimmedTexts.{no_longer, stays_within}
use Rattle.wf_run_report.proofs.FaultlessTexts.{accepts_text}

-- ---- a report without a fault

pub text_about : (t : Task) (r : Report) → IsFaultless t r → report_text r ≡ text_of_report t r.rounds r.body
unfolding text_of_report
text_about t r faultless = ap report_text (about t r faultless)

-- ---- what was read and written

-- a report that was read and has no fault, and a shorter one that was written
pub record IsTold (made : Task → Report → List ℕ) (task task' reports reports' : Reading) (sink sink' : Writing) : Type 0 where
  pub t : Task
  pub r : Report
  pub shorter : Report
  pub given : GaveTask task task' t
  pub read : Gave reports reports' (report_text r) 0
  pub few : length (report_text r) ≤ most_bytes
  pub grammar : IsTextOf r (report_text r)
  pub faultless : IsFaultless t r
  pub shortened : IsShortened t r shorter
  pub wrote : Wrote sink sink' (made t shorter)

module _ (made : Task → Report → List ℕ) (task task' reports reports' : Reading) (sink sink' : Writing) where
  of_text : (text : Result (List ℕ) ReadFault) (t : Task) (r shorter : Report) → GaveTask task task' t → ReadsText most_bytes reports reports' text → Judged (IsReportOf most_bytes) text (Ok r)
      → IsFaultless t r → IsShortened t r shorter → Wrote sink sink' (made t shorter) → IsTold made task task' reports reports' sink sink'
  of_text (Ok text) t r shorter gave (given, gives, is) judged faultless shortened wrote =
      let known : IsTextOf r text = read_written text r judged in
      let same : given ≡ report_text r = sym is.0 ∙ known.0 in
      record {
        t = t;
        r = r;
        shorter = shorter;
        given = gave;
        read = subst (λ x. Gave reports reports' x 0) same gives;
        few = subst (λ x. length x ≤ most_bytes) same is.1;
        grammar = (refl, known.1);
        faultless = faultless;
        shortened = shortened;
        wrote = wrote;
      }
  of_text (Err e) t r shorter gave reads judged faultless shortened wrote = absurd (let bad : ⊥ = cc in bad)

  of_report : (text : List ℕ) (t : Task) (r : Result Report RunFault) → GaveTask task task' t → Reads (IsReportOf most_bytes) reports reports' r
      → Next (IsVerifiedFor None (AreMade made) t) r (Ok (tt, text)) → Wrote sink sink' text → IsTold made task task' reports reports' sink sink'
  of_report text t (Ok r) gave (read, reads, judged) (faultless, (shorter, shortened, is)) wrote =
      of_text read t r shorter gave reads judged faultless shortened (subst (λ x. Wrote sink sink' x) is wrote)
  of_report text t (Err e) gave reads next wrote = absurd (let bad : ⊥ = cc in bad)

  of_task : (text : List ℕ) (t : Result Task RunFault) → Reads IsTaskOf task task' t → ChecksFor None (AreMade made) reports reports' t (Ok (tt, text)) → Wrote sink sink' text
      → IsTold made task task' reports reports' sink sink'
  of_task text (Ok t) (read, reads, judged) (r, report, next) wrote = of_report text t r (task_read task task' read t reads judged) report next wrote
  of_task text (Err e) reads checks wrote = absurd (let bad : ⊥ = cc in bad)

  pub told : (answer : Result (Unit {0} × List ℕ) RunFault) → Checks None (AreMade made) task task' reports reports' answer → Hands sink sink' answer (Ok tt) → IsTold made task task' reports reports' sink sink'
  told (Ok (x, text)) (t, reads, checks) (same, wrote) = of_task text t reads (subst (λ z. ChecksFor None (AreMade made) reports reports' t (Ok (z, text))) (sym same) checks) wrote
  told (Err e) checks hands = absurd (let bad : ⊥ = cc in bad)

-- ---- what follows

module _ (t : Task) (r shorter : Report) (few : length (report_text r) ≤ most_bytes) (grammar : IsTextOf r (report_text r)) (is : IsShortened t r shorter) where
  pub same_rounds : shorter.rounds ≡ r.rounds
  same_rounds = ap (λ (x : Report). x.rounds) is.numbers

  few_bytes : length (report_text shorter) ≤ most_bytes
  few_bytes = let fewer = no_longer r shorter is.numbers is.shorter in omega (arith, fewer, few)

  about_rounds : shorter ≡ report_about t r.rounds shorter.body
  about_rounds = about t shorter is.faultless ∙ ap (λ n. report_about t n shorter.body) same_rounds

  accepted : IsAcceptedText t r.rounds shorter.body (report_text shorter)
  accepted rounds answer asked checks =
      accepts_text t shorter is.faultless rounds answer (subst (AreAsked rounds) (sym same_rounds) asked) (stays_within r shorter is.numbers is.shorter grammar.1) few_bytes checks

  good : IsGoodText t r.rounds shorter.body (report_text shorter)
  good = record {
    text_is = text_about t shorter is.faultless ∙ ap (λ n. text_of_report t n shorter.body) same_rounds;
    holds = subst (λ n. HoldsOf t n shorter.body) same_rounds is.faultless.holds;
    few_bytes = few_bytes;
    read = written_read shorter (stays_within r shorter is.numbers is.shorter grammar.1) ∙ ap Ok about_rounds;
    accepted = accepted;
  }

pub trimmed_accepted : TrimmedReportsAreAccepted
trimmed_accepted task task' reports reports' sink sink' (answer, checks, hands) =
    let x = told (λ t r. report_text r) task task' reports reports' sink sink' answer checks hands in
    let given : Gave reports reports' (text_of_report x.t x.r.rounds x.r.body) 0 = subst (λ y. Gave reports reports' y 0) (text_about x.t x.r x.faultless) x.read in (
      x.t,
      x.r.rounds,
      x.r.body,
      x.shorter.body,
      report_text x.shorter,
      record { task_given = x.given; report_given = given; holds = x.faultless.holds },
      x.shortened.shorter,
      good x.t x.r x.shorter x.few x.grammar x.shortened,
      x.wrote,
    )
