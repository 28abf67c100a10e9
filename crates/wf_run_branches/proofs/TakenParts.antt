-- A part that a search wrote is read as the report that stands in it.
use Rattle.std.proofs.Common.{◌≡◌, ◌∙◌, ◌⊎◌, inl, inr, ◌<◌, ℕ, List, ◌++◌, length, Result, Ok, Err, refl, sym, ap, subst, arith}
use Rattle.std.proofs.lemmas.List.{append_cancel_left}
use Rattle.wf_model.specs.Limits.{most_bytes}
use Rattle.wf_model.specs.Task.{Task}
use Rattle.wf_model.specs.Report.{Report, Body, report_about, report_of, report_text}
use Rattle.wf_sat_formula.specs.Branches.{branch_at, branches}
use Rattle.wf_report.specs.declared.fault.CertFault.{CertFault}
use Rattle.wf_report.specs.declared.fault.CertFault.TheVariants as amiss
use Rattle.wf_report.proofs.Lemmas.{written_read}
use Rattle.wf_report_check.specs.Within.{report_fault_within}
use Rattle.wf_run.specs.Run.{Next}
use Rattle.wf_run.specs.Texts.{text_of_report}
use Rattle.wf_run.specs.declared.fault.PartFault.TheVariants as part
use Rattle.wf_run.specs.declared.fault.RunFault.{RunFault}
use Rattle.wf_run.specs.declared.fault.RunFault.TheVariants as run
use Rattle.wf_run_verify.proofs.Lemmas.{few_lines, unrefused}
use Rattle.wf_run_branches.specs.Solving.{part_head, part_text}
use Rattle.wf_run_branches.specs.Verifying.{ChecksIn, IsPartOf}
use Rattle.wf_run_branches.specs.Joining.{AcceptsBody, IsBodyIn, TakesPart, among_parts, in_part}
use Rattle.wf_run_branches.proofs.BranchChecks.{IsAcceptedIn}
use Rattle.wf_run_branches.proofs.PartsWithin.{IsWithin}

module _ (t : Task) (r i : ℕ) (body : Body) (within : IsWithin t r body) where
  -- how many branches there are
  abbrev Count : ℕ
  Count = length (branches t r)

  -- what stands behind the head
  behind_head : (rest : List ℕ) → part_text t r i body ≡ part_head i Count ++ rest → rest ≡ report_text (report_about t r body)
  unfolding text_of_report
  behind_head rest begins = append_cancel_left (part_head i Count) rest (report_text (report_about t r body)) (sym begins)

  its_report : (rest : List ℕ) → part_text t r i body ≡ part_head i Count ++ rest → report_of rest ≡ Ok (report_about t r body)
  its_report rest begins = ap report_of (behind_head rest begins) ∙ written_read (report_about t r body) within

  read_part : (report : Report) → IsPartOf i Count (part_text t r i body) (Ok report) → report ≡ report_about t r body
  read_part report (rest, begins, few, is) =
      let known = its_report rest begins in
      cc

  -- a part that is accepted says this
  accepted_body : (report : Result Report RunFault) (found : Body) → IsPartOf i Count (part_text t r i body) report → Next (AcceptsBody i t r) report (Ok found) → found ≡ body
  accepted_body (Ok report) found is accepts = accepts.1 ∙ ap (λ (x : Report). x.body) (read_part report is)
  accepted_body (Err e) found is next = absurd (let bad : ⊥ = cc in bad)

  body_there : (alone : Result Body RunFault) (found : Body) → IsBodyIn i t r (part_text t r i body) alone → Ok found ≡ among_parts i alone → found ≡ body
  body_there (Ok x) found (report, is, accepts) same =
      let known : found ≡ x = cc in
      known ∙ accepted_body report x is accepts
  body_there (Err e) found is same = absurd (let bad : ⊥ = cc in bad)

  -- ---- where it is accepted

  -- its report has more bytes than a text may have
  abbrev IsLong : Type 0
  IsLong = most_bytes < length (text_of_report t r body)

  -- no line of it is bad
  no_fault_in : (e : CertFault) → IsPartOf i Count (part_text t r i body) (Err (run.Cert e)) → ⊥
  no_fault_in (amiss.Syntax k) (rest, begins, few, bad) =
      let known = its_report rest begins in
      cc
  no_fault_in e (rest, begins, few, bad) = bad

  -- its text is read, or is too long
  unread : (e : RunFault) → IsPartOf i Count (part_text t r i body) (Err e) → (e ≡ run.OutOfMemory) ⊎ ((e ≡ run.TooLong) × (IsLong))
  unfolding text_of_report
  unread run.OtherPart is = absurd (is (report_text (report_about t r body)) refl)
  unread run.OutOfMemory is = inl refl
  unread run.TooLong (rest, begins, inl long) = inr (refl, subst (λ x. most_bytes < length x) (behind_head rest begins) long)
  unread run.TooLong (rest, begins, inr many) =
      let lines = few_lines rest in
      inr (refl, subst (λ x. most_bytes < length x) (behind_head rest begins) (omega (arith, lines, many)))
  unread (run.Cert e) is = absurd (no_fault_in e is)
  unread e (rest, begins, bad) = absurd bad

  module _ (accepted : IsAcceptedIn t r (branch_at t r i) body) where
    unchecked : (e : RunFault) → ChecksIn i t r (report_about t r body) (Err e) → e ≡ run.OutOfMemory
    unchecked run.OutOfMemory is = refl
    unchecked run.NotInBranch is = let inside = accepted.inside in let outside = is.1 in absurd (let never : ⊥ = cc in never)
    unchecked (run.Cert amiss.OutOfMemory) is = absurd is
    unchecked (run.Cert e) is = unrefused e (report_fault_within t r (branch_at t r i) (report_about t r body)) accepted.clear (λ same. let never : ⊥ = cc in never) is
    unchecked e is = absurd is

    -- why it is refused by itself
    refused_alone : (report : Result Report RunFault) (e : RunFault) → IsPartOf i Count (part_text t r i body) report → Next (AcceptsBody i t r) report (Err e)
        → (e ≡ run.OutOfMemory) ⊎ ((e ≡ run.TooLong) × (IsLong))
    refused_alone (Ok report) e is next = inl (unchecked e (subst (λ x. ChecksIn i t r x (Err e)) (read_part report is) next))
    refused_alone (Err f) e is next =
        let same : e ≡ f = cc in
        subst (λ x. (x ≡ run.OutOfMemory) ⊎ ((x ≡ run.TooLong) × (IsLong))) (sym same) (unread f is)

    module _ (Stops : RunFault → Type 0) (memory : Stops run.OutOfMemory) (long : IsLong → Stops (run.InPart i (part.Report amiss.TooLong))) where
      stops : (e : RunFault) → (e ≡ run.OutOfMemory) ⊎ ((e ≡ run.TooLong) × (IsLong)) → Stops (in_part i e)
      stops e (inl same) = subst (λ x. Stops (in_part i x)) (sym same) memory
      stops e (inr why) = subst (λ x. Stops (in_part i x)) (sym why.0) (long why.1)

      refused_among : (alone : Result Body RunFault) (e : RunFault) → IsBodyIn i t r (part_text t r i body) alone → Err e ≡ among_parts i alone → Stops e
      refused_among (Ok x) e is same = absurd (let bad : ⊥ = cc in bad)
      refused_among (Err f) e (report, is, next) same =
          let known : in_part i f ≡ e = cc in
          subst Stops known (stops f (refused_alone report f is next))

      -- what is taken for it is what it says, or one of these stops it
      pub taken_unless : (result : Result Body RunFault) → TakesPart i t r (part_text t r i body) result → (result ≡ Ok body) ⊎ ((e : RunFault) × (result ≡ Err e) × Stops e)
      taken_unless (Ok found) (alone, is, same) = inl (ap Ok (body_there alone found is same))
      taken_unless (Err e) (alone, is, same) = inr (e, refl, refused_among alone e is same)
