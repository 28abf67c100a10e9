-- The answer of a search over numbers, in the terms of the task.
use Rattle.std.proofs.Common.{◌≡◌, ℕ, List, None, Some, refl, sym, ap, subst, ◌∙◌}
use Rattle.wf_core.specs.declared.Account.{Account}
use Rattle.wf_model.specs.Task.{Task, IsTask}
use Rattle.wf_model.specs.Box.{root}
use Rattle.wf_model.specs.Problem.{problem_of}
use Rattle.wf_model.specs.DecisionMap.{listed}
use Rattle.wf_model.specs.Refutation.{Line}
use Rattle.wf_model.specs.Closing.{canonical}
use Rattle.wf_model.proofs.Lemmas.{by_number, listed_by_number, canonical_none_refutes, canonical_leads, answer_least, answer_none, canonical_least, root_is_box, task_well_formed}
use Rattle.wf_model.specs.Report.{none}
pub use Rattle.wf_complex.proofs.Lemmas.{and_more}
use Rattle.wf_pool.specs.Answers.{HasAccountOfMap, map_lines, refuting_lines}
use Rattle.wf_run_solve.specs.declared.outcome.Outcome.TheVariants.{Map, Nothing}
use Rattle.wf_base.specs.declared.lines.form.Form.{Form}
use Rattle.wf_base.specs.declared.lines.form.Form.TheVariants.{Full, Verdict, Least}
use Rattle.wf_run.specs.Texts.{text_of_report}
use Rattle.wf_run_solve.specs.Texts.{lines_kept, body_of_map, body_of_none, LeadsToMap, IsFound, IsAccountOf}

-- what is shown of a map's lines is what was kept of them
pub kept_shown : (form : Form) (m : List ℕ) (ls all : List Line) → ls ≡ map_lines (lines_kept form) all → body_of_map form m ls ≡ body_of_map form m all
kept_shown Full m ls all kept = refl
kept_shown Verdict m ls all kept = refl
kept_shown Least m ls all kept = ap (body_of_map Least m) kept

-- and what was kept of the lines that refute is shown
pub none_shown : (form : Form) (ls all : List Line) → ls ≡ refuting_lines (lines_kept form) all → none ls ≡ body_of_none form all
none_shown Full ls all kept = ap none kept
none_shown Verdict ls all kept = ap none kept
none_shown Least ls all kept = ap none kept

-- the values that a search ends with are those of the map that is listed
listed_again : (t : Task) (r : ℕ) (values : List ℕ) → IsTask t → (canonical (problem_of t r) (root (problem_of t r))).map ≡ Some values → values ≡ listed t r (by_number t r values)
listed_again t r values task found =
    let p = problem_of t r in
    let formed = task_well_formed t r task in
    sym (listed_by_number t r values (canonical_least p (root p) values formed (root_is_box p formed) found).solves.long)

module _ (t : Task) (r : ℕ) (form : Form) where
  pub map_verdict : (values : List ℕ) (ls : List Line) (text : List ℕ) → IsTask t → (canonical (problem_of t r) (root (problem_of t r))).map ≡ Some values
      → ls ≡ map_lines (lines_kept form) (canonical (problem_of t r) (root (problem_of t r))).lines → text ≡ text_of_report t r (body_of_map form values ls)
      → IsFound form t r Map text
  map_verdict values ls text task found kept is =
      let p = problem_of t r in
      let all : List Line = (canonical p (root p)).lines in
      let formed = task_well_formed t r task in
      let is_box = root_is_box p formed in
      let leads : LeadsToMap t r values all = record { canonical_lines = refl; leads = canonical_leads p (root p) values is_box.ascending found } in
      let same = listed_again t r values task found in (
        by_number t r values,
        all,
        answer_least t r values task found,
        subst (λ vs. LeadsToMap t r vs all) same leads,
        is ∙ ap (text_of_report t r) (kept_shown form values ls all kept) ∙ ap (λ vs. text_of_report t r (body_of_map form vs all)) same,
      )

  pub none_verdict : (ls : List Line) (text : List ℕ) → IsTask t → (canonical (problem_of t r) (root (problem_of t r))).map ≡ None
      → ls ≡ refuting_lines (lines_kept form) (canonical (problem_of t r) (root (problem_of t r))).lines → text ≡ text_of_report t r (none ls)
      → IsFound form t r Nothing text
  none_verdict ls text task nothing kept is =
      let p = problem_of t r in
      let all : List Line = (canonical p (root p)).lines in (
        all,
        record { canonical_lines = refl; refutes = canonical_none_refutes p (root p) nothing; no_map = answer_none t r task nothing },
        is ∙ ap (text_of_report t r) (none_shown form ls all kept),
      )

-- the account of a map's values is that of the least decision map
pub map_account : (t : Task) (r : ℕ) (values : List ℕ) (a : Account) → IsTask t → (canonical (problem_of t r) (root (problem_of t r))).map ≡ Some values
    → HasAccountOfMap (problem_of t r) values a → IsAccountOf t r Map a
map_account t r values a task found account =
    (by_number t r values, answer_least t r values task found, subst (λ vs. HasAccountOfMap (problem_of t r) vs a) (listed_again t r values task found) account)
