-- What is accepted of a certificate is true.
use Rattle.std.proofs.Common.{◌≡◌, ℕ, false, cond, ◌∙◌, List, [], Option, inl, inr, Result, Ok, Err, refl, sym, ap, subst}
use Rattle.wf_model.specs.Limits.{most_bytes}
use Rattle.wf_model.specs.Task.{Task}
use Rattle.wf_model.specs.DecisionMap.{HasNoDecisionMap}
use Rattle.wf_base.specs.Streams.Seen.{Reading, Writing}
use Rattle.wf_base.specs.Streams.Texts.{IsText, Wrote}
use Rattle.wf_base.specs.declared.streams.source.ReadFault.{ReadFault}
use Rattle.wf_tree_text.specs.Text.{Obstruction, begins_as_obstruction}
use Rattle.wf_run_verify.specs.declared.outcome.Accepted.{Accepted}
use Rattle.wf_run_verify.specs.declared.outcome.Verified.{Verified}
use Rattle.wf_run_verify.specs.declared.outcome.Verified.TheVariants as verified
use Rattle.wf_run.specs.declared.fault.RunFault.{RunFault}
use Rattle.wf_run.specs.Run.{Hands, IsTaskOf, Judged, Next, Ran, Reads}
use Rattle.wf_run_verify.specs.Verify as of_reports
use Rattle.wf_run_verify.specs.Verify.{ChecksAfter, ChecksText, IsAccepted}
use Rattle.wf_run_verify.specs.Certificates.{ChecksBoth, ChecksCertificate, ChecksCertificateFor, JudgesObstruction, ReadsCertificate, most_behind, never_text}
use Rattle.wf_run.specs.Given.{GaveTask}
use Rattle.wf_run_verify.specs.Headline.{ObstructionsAreTrue}
use Rattle.wf_run_verify.specs.Laws.{AcceptedReportsAreVerified}
use Rattle.wf_run.proofs.Lemmas.{task_read}

-- what is accepted, and the line that says so
accepted_in : Result (Verified × List ℕ) RunFault → Verified
accepted_in (Ok answer) = answer.0
accepted_in (Err e) = verified.Obstruction

line_in : Result (Verified × List ℕ) RunFault → List ℕ
line_in (Ok answer) = answer.1
line_in (Err e) = []

module _ (most : ℕ) (rounds : Option ℕ) (task task' source source' : Reading) (sink sink' : Writing) where
  -- ---- an obstruction

  abbrev IsNever : List ℕ → Task → Type 0
  IsNever text t = ((r : ℕ) → HasNoDecisionMap t r) × (text ≡ never_text rounds)

  of_obstruction : (text : List ℕ) (t : Task) (o : Result Obstruction RunFault) → Next (JudgesObstruction rounds t) o (Ok (verified.Obstruction, text)) → IsNever text t
  of_obstruction text t (Ok o) next = (next.0.no_map, next.2)
  of_obstruction text t (Err e) next = absurd (let bad : ⊥ = cc in bad)

  never : (text : List ℕ) (t : Task) (given : List ℕ) → ChecksCertificate most rounds t given (Ok (verified.Obstruction, text)) → IsNever text t
  unfolding accepted_in
  never text t given (inl (begins, (o, is, next))) = of_obstruction text t o next
  never text t given (inr (begins, (Ok answer, checks, same))) = absurd (let e : verified.Obstruction ≡ verified.Report answer.0 = ap accepted_in same in let bad : ⊥ = cc in bad)
  never text t given (inr (begins, (Err e, checks, same))) = absurd (let bad : ⊥ = cc in bad)

  of_source : (text : List ℕ) (t : Task) (given : Result (List ℕ) ReadFault) → Judged (ChecksCertificate most rounds t) given (Ok (verified.Obstruction, text)) → IsNever text t
  of_source text t (Ok given) judged = never text t given judged
  of_source text t (Err e) judged = absurd (let bad : ⊥ = cc in bad)

  abbrev Right : Type 0
  Right = (t : Task) × GaveTask task task' t × ((r : ℕ) → HasNoDecisionMap t r) × Wrote sink sink' (never_text rounds)

  of_task : (text : List ℕ) (t : Result Task RunFault) → Reads IsTaskOf task task' t → ChecksCertificateFor most rounds source source' t (Ok (verified.Obstruction, text)) → Wrote sink sink' text → Right
  of_task text (Ok t) (read, reads, judged) (given, came, checks) wrote =
      let said = of_source text t given checks in
      (t, task_read task task' read t reads judged, said.0, subst (λ x. Wrote sink sink' x) said.1 wrote)
  of_task text (Err e) reads checks wrote = absurd (let bad : ⊥ = cc in bad)

  pub of_answer : (answer : Result (Verified × List ℕ) RunFault) → ChecksBoth most rounds task task' source source' answer → Hands sink sink' answer (Ok verified.Obstruction) → Right
  of_answer (Ok (x, text)) (t, reads, checks) (same, wrote) =
      of_task text t reads (subst (λ y. ChecksCertificateFor most rounds source source' t (Ok (y, text))) (sym same) checks) wrote
  of_answer (Err e) checks hands = absurd (let bad : ⊥ = cc in bad)

  -- ---- a report

  not_report : {P : Type 0} (accepted : Accepted) (text : List ℕ) (t : Task) (o : Result Obstruction RunFault) → Next (JudgesObstruction rounds t) o (Ok (verified.Report accepted, text)) → P
  not_report accepted text t (Ok o) next = absurd (let same = next.1 in let bad : ⊥ = cc in bad)
  not_report accepted text t (Err e) next = absurd (let bad : ⊥ = cc in bad)

  reported : (accepted : Accepted) (text : List ℕ) (t : Task) (given : List ℕ) → ChecksCertificate most rounds t given (Ok (verified.Report accepted, text)) → ChecksText most rounds t given (Ok (accepted, text))
  unfolding accepted_in line_in
  reported accepted text t given (inl (begins, (o, is, next))) = not_report accepted text t o next
  reported accepted text t given (inr (begins, (Ok (a, line), checks, same))) =
      let e : verified.Report accepted ≡ verified.Report a = ap accepted_in same in
      let same_accepted : a ≡ accepted = cc in
      let same_line : text ≡ line = ap line_in same in
      subst (λ x. ChecksText most rounds t given (Ok (accepted, x))) (sym same_line)
      (subst (λ x. ChecksText most rounds t given (Ok (x, line))) same_accepted checks)
  reported accepted text t given (inr (begins, (Err e, checks, same))) = absurd (let bad : ⊥ = cc in bad)

  not_one : (accepted : Accepted) (text : List ℕ) (t : Task) (given : List ℕ) → ChecksCertificate most rounds t given (Ok (verified.Report accepted, text)) → begins_as_obstruction given ≡ false
  not_one accepted text t given (inl (begins, (o, is, next))) = not_report accepted text t o next
  not_one accepted text t given (inr (begins, checks)) = begins

  report_of_source : (accepted : Accepted) (text : List ℕ) (t : Task) (given : Result (List ℕ) ReadFault) → ReadsCertificate most source source' given → Judged (ChecksCertificate most rounds t) given (Ok (verified.Report accepted, text))
      → ChecksAfter most rounds (IsAccepted rounds) source source' (Ok t) (Ok (accepted, text))
  report_of_source accepted text t (Ok given) (read, gave, (same, few, end)) judged =
      let checks = reported accepted text t given judged in
      let limit : most_behind most read ≡ most = ap (λ is_one. cond is_one most_bytes most) (ap begins_as_obstruction (sym same) ∙ not_one accepted text t given judged) in
      (checks.0, (Ok given, (read, gave, subst (λ m. IsText m read source'.left (Ok given)) limit (same, few, end)), checks.1), checks.2)
  report_of_source accepted text t (Err e) came judged = absurd (let bad : ⊥ = cc in bad)

  report_of_task : (accepted : Accepted) (text : List ℕ) (t : Result Task RunFault) → ChecksCertificateFor most rounds source source' t (Ok (verified.Report accepted, text)) → ChecksAfter most rounds (IsAccepted rounds) source source' t (Ok (accepted, text))
  report_of_task accepted text (Ok t) (given, came, checks) = report_of_source accepted text t given came checks
  report_of_task accepted text (Err e) checks = absurd (let bad : ⊥ = cc in bad)

  pub of_report : (accepted : Accepted) (answer : Result (Verified × List ℕ) RunFault) → ChecksBoth most rounds task task' source source' answer → Hands sink sink' answer (Ok (verified.Report accepted))
      → Ran (of_reports.ChecksBoth most rounds (IsAccepted rounds) task task' source source') sink sink' (Ok accepted)
  of_report accepted (Ok (x, text)) (t, reads, checks) (same, wrote) =
      (Ok (accepted, text), (t, reads, report_of_task accepted text t (subst (λ y. ChecksCertificateFor most rounds source source' t (Ok (y, text))) (sym same) checks)), (refl, wrote))
  of_report accepted (Err e) checks hands = absurd (let bad : ⊥ = cc in bad)

pub obstructions_true : ObstructionsAreTrue
obstructions_true most rounds task task' source source' sink sink' (answer, checks, hands) = of_answer most rounds task task' source source' sink sink' answer checks hands

pub reports_verified : AcceptedReportsAreVerified
reports_verified most rounds task task' source source' sink sink' accepted (answer, checks, hands) = of_report most rounds task task' source source' sink sink' accepted answer checks hands
