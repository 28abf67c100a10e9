-- What a check accepts, and what is told to be decided, is true.
use Rattle.std.proofs.Common.{◌≡◌, ℕ, List, Option, None, Some, Result, Ok, Err, inl, inr, refl, sym, ap, subst, ◌∙◌}
use Rattle.wf_model.specs.Limits.{most_bytes}
use Rattle.wf_model.specs.Task.{Task}
use Rattle.wf_model.specs.Report.{Report, report_about, report_of, report_text}
use Rattle.wf_model.proofs.Lemmas.{numbers}
use Rattle.wf_base.specs.Streams.Seen.{Reading, Writing}
use Rattle.wf_base.specs.Streams.Texts.{Gave, ReadsText, Wrote}
use Rattle.wf_base.specs.declared.streams.source.ReadFault.{ReadFault}
use Rattle.wf_report.proofs.Lemmas.{read_written}
use Rattle.wf_run.specs.declared.fault.RunFault.{RunFault}
use Rattle.wf_run.specs.Run.{Hands, IsTaskOf, Judged, Next, Reads}
use Rattle.wf_run.specs.Texts.{text_of_report}
use Rattle.wf_run_verify.specs.Verify.{AreDecisions, ChecksAfter, ChecksBoth, IsAccepted, IsFaultless, IsReportOf, IsVerified, IsVerifiedFor, ReadsReport}
use Rattle.wf_run_verify.specs.Headline.{AcceptancesAreTrue, AreAsked, DecisionsAreTrue, GaveTruth}
use Rattle.wf_run.specs.Given.{GaveTask}
use Rattle.wf_run.proofs.Lemmas.{task_read}

-- a report without a fault is about the task and its own rounds
pub about : (t : Task) (r : Report) → IsFaultless t r → r ≡ report_about t r.rounds r.body
about t r faultless =
    let n = numbers t r.rounds r faultless.faultless in
    λ i. record { processes = n.processes i; rounds = r.rounds; points = n.points i; executions = n.executions i; body = r.body }

pub written_as_read : (text : List ℕ) (t : Task) (r : Report) → report_of text ≡ Ok r → IsFaultless t r → text ≡ text_of_report t r.rounds r.body
unfolding text_of_report
written_as_read text t r read faultless = (read_written text r read).0 ∙ ap report_text (about t r faultless)

-- ---- what a check accepts

-- a report that is accepted, with what is answered and written of it
pub record IsTold {X : Type 0} (rounds : Option ℕ) (is_text : Task → Report → X → List ℕ → Type 0) (task task' reports reports' : Reading) (sink sink' : Writing) (x : X) : Type 0 where
  pub t : Task
  pub r : Report
  pub text : List ℕ
  pub truth : GaveTruth task task' reports reports' t r.rounds r.body
  pub asked : AreAsked rounds r.rounds
  pub is : is_text t r x text
  pub wrote : Wrote sink sink' text

-- a report of at most so many bytes
module _ {X : Type 0} (most : ℕ) (rounds : Option ℕ) (is_text : Task → Report → X → List ℕ → Type 0) (task task' reports reports' : Reading) (sink sink' : Writing) (x : X) where
  report_read : (text : Result (List ℕ) ReadFault) (t : Task) (r : Report) → ReadsText most reports reports' text → Judged (IsReportOf most) text (Ok r) → IsFaultless t r
      → Gave reports reports' (text_of_report t r.rounds r.body) 0
  report_read (Ok text) t r (given, gave, is) judged faultless =
      subst (λ x. Gave reports reports' x 0) (written_as_read given t r (ap report_of (sym is.0) ∙ judged) faultless) gave
  report_read (Err e) t r reads judged faultless = absurd (let bad : ⊥ = cc in bad)

  of_verified : (text : List ℕ) (t : Task) (r : Report) → GaveTask task task' t → ReadsReport most reports reports' (Ok r)
      → AreAsked rounds r.rounds → IsVerified is_text t r (Ok (x, text)) → Wrote sink sink' text → IsTold rounds is_text task task' reports reports' sink sink' x
  of_verified text t r gave (read, reads, judged) asked next wrote = record {
    t = t;
    r = r;
    text = text;
    truth = record { task_given = gave; report_given = report_read read t r reads judged next.0; holds = next.0.holds };
    asked = asked;
    is = next.1;
    wrote = wrote;
  }

  of_rounds : (k : Option ℕ) (same : k ≡ rounds) (text : List ℕ) (t : Task) (r : Report) → GaveTask task task' t → ReadsReport most reports reports' (Ok r)
      → IsVerifiedFor k is_text t r (Ok (x, text)) → Wrote sink sink' text → IsTold rounds is_text task task' reports reports' sink sink' x
  of_rounds None same text t r gave reads next wrote = of_verified text t r gave reads (subst (λ o. AreAsked o r.rounds) same tt) next wrote
  of_rounds (Some n) same text t r gave reads (inl (asked, next)) wrote = of_verified text t r gave reads (subst (λ o. AreAsked o r.rounds) same asked) next wrote
  of_rounds (Some n) same text t r gave reads (inr (other, refused)) wrote = absurd (let bad : ⊥ = cc in bad)

  of_report : (text : List ℕ) (t : Task) (r : Result Report RunFault) → GaveTask task task' t → ReadsReport most reports reports' r
      → Next (IsVerifiedFor rounds is_text t) r (Ok (x, text)) → Wrote sink sink' text → IsTold rounds is_text task task' reports reports' sink sink' x
  of_report text t (Ok r) gave reads next wrote = of_rounds rounds refl text t r gave reads next wrote
  of_report text t (Err e) gave reads next wrote = absurd (let bad : ⊥ = cc in bad)

  of_both : (text : List ℕ) (t : Result Task RunFault) → Reads IsTaskOf task task' t → ChecksAfter most rounds is_text reports reports' t (Ok (x, text)) → Wrote sink sink' text
      → IsTold rounds is_text task task' reports reports' sink sink' x
  of_both text (Ok t) (read, reads, judged) (r, report, next) wrote = of_report text t r (task_read task task' read t reads judged) report next wrote
  of_both text (Err e) reads checks wrote = absurd (let bad : ⊥ = cc in bad)

  pub of_check : (answer : Result (X × List ℕ) RunFault) → ChecksBoth most rounds is_text task task' reports reports' answer → Hands sink sink' answer (Ok x) → IsTold rounds is_text task task' reports reports' sink sink' x
  of_check (Ok (y, text)) (t, reads, checks) (same, wrote) = of_both text t reads (subst (λ z. ChecksAfter most rounds is_text reports reports' t (Ok (z, text))) (sym same) checks) wrote
  of_check (Err e) checks hands = absurd (let bad : ⊥ = cc in bad)

pub acceptances_true : AcceptancesAreTrue
acceptances_true most rounds task task' reports reports' sink sink' accepted (answer, checks, hands) =
    let told = of_check most rounds (IsAccepted rounds) task task' reports reports' sink sink' accepted answer checks hands in
    (told.t, told.r.rounds, told.r.body, told.truth, told.asked, told.is.0, subst (λ text. Wrote sink sink' text) told.is.1 told.wrote)

pub decisions_true : DecisionsAreTrue
decisions_true task task' reports reports' sink sink' (answer, checks, hands) =
    let told = of_check most_bytes None AreDecisions task task' reports reports' sink sink' tt answer checks hands in
    (told.t, told.r.rounds, told.r.body, told.truth, subst (λ text. Wrote sink sink' text) told.is told.wrote)
