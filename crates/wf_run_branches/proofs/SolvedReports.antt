-- What a search writes in the full or the least form is accepted.
use Rattle.std.proofs.Common.{◌≡◌, ◌≢◌, ◌≤◌, ℕ, List, length, Option, Some, None, Result, refl, ap, ◌∙◌, subst}
use Rattle.wf_model.specs.Task.{Task, IsTask}
use Rattle.wf_model.specs.View.{View}
use Rattle.wf_model.specs.DecisionMap.{IsDecisionMap, HasNoDecisionMap, listed}
use Rattle.wf_model.specs.Problem.{problem_of}
use Rattle.wf_model.specs.Box.{root}
use Rattle.wf_model.specs.Refutation.{Line}
use Rattle.wf_model.specs.Closing.{canonical}
use Rattle.wf_model.specs.Report.{none, least, report_about}
use Rattle.wf_model.specs.Check.{report_fault}
use Rattle.wf_model.proofs.Lemmas.{answer_least, canonical_none_accepted, least_tree_accepted}
use Rattle.wf_model.specs.Limits.{most_bytes}
use Rattle.wf_run_solve.specs.declared.outcome.Outcome.{Outcome}
use Rattle.wf_run_solve.specs.declared.outcome.Outcome.TheVariants as outcome
use Rattle.wf_run_verify.specs.declared.outcome.Accepted.{Accepted}
use Rattle.wf_run_verify.specs.declared.outcome.Accepted.TheVariants as accepted
use Rattle.wf_base.specs.declared.lines.form.Form.{Form}
use Rattle.wf_base.specs.declared.lines.form.Form.TheVariants as form
use Rattle.wf_run.specs.declared.fault.RunFault.{RunFault}
use Rattle.wf_run.specs.Run.{HasComplex}
use Rattle.wf_run_solve.specs.Texts.{IsFound, IsRefutation, LeadsToMap}
use Rattle.wf_run.specs.Texts.{text_of_report}
use Rattle.wf_run_verify.specs.Verify.{ChecksText}
use Rattle.wf_run_verify.specs.Laws.{Accepts}
use Rattle.wf_run_branches.specs.SolvedReports.{accepted_as}
use Rattle.wf_run_verify.proofs.Lemmas.{none_within, least_within, body_accepted, map_text_accepted}

-- where there is no map, the canonical search finds none
finds_none : (t : Task) (r : ℕ) → IsTask t → HasNoDecisionMap t r → (canonical (problem_of t r) (root (problem_of t r))).map ≡ None
finds_none t r task fails = by_map (canonical (problem_of t r) (root (problem_of t r))).map refl
  where
    by_map : (o : Option (List ℕ)) → (canonical (problem_of t r) (root (problem_of t r))).map ≡ o → (canonical (problem_of t r) (root (problem_of t r))).map ≡ None
    by_map None e = e
    by_map (Some m) e = absurd (fails _ (answer_least t r m task e).decides)

module _ (t : Task) (r : ℕ) where
  none_text_accepted : (ls : List Line) (text : List ℕ) (answer : Result (Accepted × List ℕ) RunFault) → IsTask t → HasComplex t r → IsRefutation t r ls
      → text ≡ text_of_report t r (none ls) → length text ≤ most_bytes → ChecksText most_bytes None t text answer → Accepts accepted.Nothing answer
  none_text_accepted ls text answer task within refuted is short checks =
      let lines : List Line = (canonical (problem_of t r) (root (problem_of t r))).lines in
      let written : text ≡ text_of_report t r (none lines) = is ∙ ap (λ x. text_of_report t r (none x)) refuted.canonical_lines in
      let refutation = refuted.refutes in
      body_accepted t r None (none lines) text answer tt (none_within t r task within refutation.0 (refutation.1 ∙ refuted.canonical_lines) refutation.2) within
      (canonical_none_accepted t r task (finds_none t r task refuted.no_map)) written short checks

  least_text_accepted : (m : View → ℕ) (ls : List Line) (text : List ℕ) (answer : Result (Accepted × List ℕ) RunFault) → IsTask t → HasComplex t r → IsDecisionMap t r m → LeadsToMap t r (listed t r m) ls
      → text ≡ text_of_report t r (least (listed t r m) ls) → length text ≤ most_bytes → ChecksText most_bytes None t text answer → Accepts accepted.Least answer
  least_text_accepted m ls text answer task within decides leads is short checks =
      let lines : List Line = (canonical (problem_of t r) (root (problem_of t r))).lines in
      let written : text ≡ text_of_report t r (least (listed t r m) lines) = is ∙ ap (λ x. text_of_report t r (least (listed t r m) x)) leads.canonical_lines in
      let shape = leads.leads in
      let same = shape.1 ∙ leads.canonical_lines in
      body_accepted t r None (least (listed t r m) lines) text answer tt (least_within t r task within m decides shape.0 same shape.2) within
      (subst (λ x. report_fault t r (report_about t r (least (listed t r m) x)) ≡ None) same (least_tree_accepted t r m shape.0 task decides shape.2)) written short checks

pub found_accepted : (t : Task) (r : ℕ) (asked : Form) (found : Outcome) (text : List ℕ) (answer : Result (Accepted × List ℕ) RunFault)
    → IsTask t → HasComplex t r → asked ≢ form.Verdict → IsFound asked t r found text → length text ≤ most_bytes
    → ChecksText most_bytes None t text answer → Accepts (accepted_as asked found) answer
found_accepted t r form.Full outcome.Map text answer task within shows (m, ls, is_least, leads, is) short checks =
    map_text_accepted t r None m text answer tt task within is_least.decides is short checks
found_accepted t r form.Least outcome.Map text answer task within shows (m, ls, is_least, leads, is) short checks =
    least_text_accepted t r m ls text answer task within is_least.decides leads is short checks
found_accepted t r form.Full outcome.Nothing text answer task within shows (ls, refuted, is) short checks =
    none_text_accepted t r ls text answer task within refuted is short checks
found_accepted t r form.Least outcome.Nothing text answer task within shows (ls, refuted, is) short checks =
    none_text_accepted t r ls text answer task within refuted is short checks
found_accepted t r form.Verdict found text answer task within shows solved short checks = absurd (shows refl)
