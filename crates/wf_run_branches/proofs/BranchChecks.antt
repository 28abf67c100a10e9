-- A checker finds no fault in the part that a search of a branch writes.
use Rattle.std.proofs.Common.{◌≡◌, ◌+◌, ℕ, true, false, not, List, [], ◌∷◌, length, None, refl, ap, subst}
use Rattle.std.proofs.lemmas.Bool.{and_from}
use Rattle.wf_model.specs.Lists.{has}
use Rattle.wf_model.specs.Task.{Task, IsTask}
use Rattle.wf_model.specs.View.{View}
use Rattle.wf_model.specs.DecisionMap.{listed}
use Rattle.wf_model.specs.Problem.{problem_of}
use Rattle.wf_model.specs.Box.{Box, LiesIn}
use Rattle.wf_model.specs.Refutation.{Line}
use Rattle.wf_model.specs.Report.{Body, a_map, least, none, report_about}
use Rattle.wf_model.specs.Check.{first_fault, first_least_fault, header_fault, map_fault}
use Rattle.wf_model.proofs.Lemmas.{box_accepts, listed_solves, leading_lines_accepted, faultless, task_well_formed, both_pass, numbers_pass}
use Rattle.wf_sat_formula.specs.Branches.{branch_at}
use Rattle.wf_report_check.specs.Within.{fault_within, report_fault_within}
use Rattle.wf_base.specs.declared.lines.form.Form.{Form}
use Rattle.wf_base.specs.declared.lines.form.Form.TheVariants as form
use Rattle.wf_run_solve.specs.Texts.{body_of_map}
use Rattle.wf_run_branches.specs.Branches.{HasBranch}
use Rattle.wf_run_branches.specs.Solving.{IsLeastInBranch, IsRefutationIn, LeadsToMapIn}
use Rattle.wf_run_branches.specs.Verifying.{is_outside, lies_in}
use Rattle.wf_run_branches.proofs.BranchAnswers.{branch_is_box}

-- the report is accepted as one about this box
pub record IsAcceptedIn (t : Task) (r : ℕ) (box : Box) (body : Body) : Type 0 where
  pub clear : report_fault_within t r box (report_about t r body) ≡ None
  pub inside : is_outside body box ≡ false

-- a map that lies in a box is found to lie there
found_inside : (m : List ℕ) (box : Box) → LiesIn m box → lies_in m box ≡ true
found_inside [] [] lies = refl
found_inside [] (set ∷ box) lies = absurd lies
found_inside (a ∷ m) [] lies = absurd lies
found_inside (a ∷ m) (set ∷ box) lies = and_from (has set a) (lies_in m box) lies.0 (found_inside m box lies.1)

module _ (t : Task) (r : ℕ) (is : IsTask t) (i : ℕ) (there : HasBranch t r i) where
  accepted_where : (body : Body) → fault_within (problem_of t r) (branch_at t r i) body ≡ None → is_outside body (branch_at t r i) ≡ false → IsAcceptedIn t r (branch_at t r i) body
  accepted_where body clear inside = record {
    clear = both_pass (header_fault t r (problem_of t r) (report_about t r body)) (fault_within (problem_of t r) (branch_at t r i) body) (numbers_pass t r body) clear;
    inside = inside;
  }

  pub none_accepted : (ls : List Line) → IsRefutationIn t r i ls → IsAcceptedIn t r (branch_at t r i) (none ls)
  none_accepted ls refuted =
      let shape = refuted.refutes in
      accepted_where (none ls)
      (subst (λ x. first_fault (problem_of t r) 7 x (branch_at t r i ∷ []) ≡ None) shape.1
      (box_accepts (problem_of t r) (task_well_formed t r is) 7 shape.0 (branch_at t r i) (branch_is_box t r i is there).long shape.2)) refl

  module _ (m : View → ℕ) (ls : List Line) (found : IsLeastInBranch t r i m) (leads : LeadsToMapIn t r i (listed t r m) ls) where
    map_clear : map_fault (problem_of t r) (listed t r m) ≡ None
    map_clear = (faultless (problem_of t r) (listed t r m)).1 (listed_solves t r m found.decides)

    lines_clear : first_least_fault (problem_of t r) (listed t r m) (7 + length (listed t r m)) ls (branch_at t r i ∷ []) ≡ None
    lines_clear =
        let shape = leads.leads in
        subst (λ x. first_least_fault (problem_of t r) (listed t r m) (7 + length (listed t r m)) x (branch_at t r i ∷ []) ≡ None) shape.1
        (leading_lines_accepted (problem_of t r) (branch_at t r i) (listed t r m) (7 + length (listed t r m)) shape.0 (task_well_formed t r is) (branch_is_box t r i is there).long shape.2)

    pub map_accepted : (asked : Form) → IsAcceptedIn t r (branch_at t r i) (body_of_map asked (listed t r m) ls)
    map_accepted form.Full = accepted_where (a_map (listed t r m)) map_clear (ap not (found_inside (listed t r m) (branch_at t r i) found.lies))
    map_accepted form.Verdict = accepted_where (a_map (listed t r m)) map_clear (ap not (found_inside (listed t r m) (branch_at t r i) found.lies))
    map_accepted form.Least = accepted_where (least (listed t r m) ls) (both_pass (map_fault (problem_of t r) (listed t r m)) _ map_clear lines_clear) refl
