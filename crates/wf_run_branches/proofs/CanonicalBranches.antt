-- What searches say of branches and of the root, by the canonical searches of these.
use Rattle.std.proofs.Common.{◌≡◌, ◌∙◌, ℕ, List, Option, None, Some, refl, sym, ap, subst}
use Rattle.wf_model.specs.Lists.{IsBelowOrSame}
use Rattle.wf_model.specs.Task.{Task, IsTask}
use Rattle.wf_model.specs.View.{View}
use Rattle.wf_model.specs.DecisionMap.{IsLeast, HasNoDecisionMap, listed}
use Rattle.wf_model.specs.Problem.{problem_of}
use Rattle.wf_model.specs.Box.{LiesIn, root}
use Rattle.wf_model.specs.Refutation.{Line}
use Rattle.wf_model.specs.Closing.{canonical}
use Rattle.wf_model.specs.Laws.{HasCanonicalLines, HasCanonicalMap, IsLeastIn}
use Rattle.wf_model.proofs.Lemmas.{by_number, listed_solves, solution_decides, one_least, answer_least, answer_none, canonical_answers, canonical_least, root_is_box, solution_in_root, listed_by_number, task_well_formed}
use Rattle.wf_base.specs.declared.lines.form.Form.{Form}
use Rattle.wf_run_solve.specs.Texts.{IsFound, body_of_map, body_of_none}
use Rattle.wf_run.specs.Texts.{text_of_report}
use Rattle.wf_run_solve.specs.declared.outcome.Outcome.{Outcome}
use Rattle.wf_run_solve.specs.declared.outcome.Outcome.TheVariants as outcome
use Rattle.wf_sat_formula.specs.Branches.{branch_at}
use Rattle.wf_run_branches.specs.Branches.{HasBranch}
use Rattle.wf_run_branches.specs.Refuting.{HasNoMapIn}
use Rattle.wf_run_branches.specs.Solving.{IsLeastInBranch, IsRefutationIn, LeadsToMapIn}
use Rattle.wf_run_branches.proofs.BranchAnswers.{branch_is_box, least_there}

module _ (t : Task) (r : ℕ) (is : IsTask t) where
  module _ (i : ℕ) (there : HasBranch t r i) where
    -- the least decision map in a branch is the least solution there
    least_solution : (m : View → ℕ) → IsLeastInBranch t r i m → IsLeastIn (problem_of t r) (branch_at t r i) (listed t r m)
    least_solution m least = record {
      solves = listed_solves t r m least.decides;
      lies = least.lies;
      least = λ other solves lies.
          let same : listed t r (by_number t r other) ≡ other = listed_by_number t r other solves.long in
          subst (λ xs. IsBelowOrSame (listed t r m) xs) same
          (least.least (by_number t r other) (solution_decides t r other solves) (subst (λ xs. LiesIn xs (branch_at t r i)) (sym same) lies));
    }

    -- a branch in which no decision map lies
    finds_none : HasNoMapIn t r i → (canonical (problem_of t r) (branch_at t r i)).map ≡ None
    finds_none nothing = by_map (canonical (problem_of t r) (branch_at t r i)).map refl
      where
        by_map : (o : Option (List ℕ)) → (canonical (problem_of t r) (branch_at t r i)).map ≡ o → o ≡ None
        by_map None found = refl
        by_map (Some m) found =
            let least = least_there t r i m (canonical_least (problem_of t r) (branch_at t r i) m (task_well_formed t r is) (branch_is_box t r i is there) found) in
            absurd (nothing (by_number t r m) least.decides least.lies)

    pub refuted_lines : (ls : List Line) → IsRefutationIn t r i ls → HasCanonicalLines (problem_of t r) (branch_at t r i) ls
    refuted_lines ls refuted = λ j. record { lines = sym refuted.canonical_lines j; map = finds_none refuted.no_map j }

    -- a branch with a least decision map
    pub finds_map : (m : View → ℕ) → IsLeastInBranch t r i m → (canonical (problem_of t r) (branch_at t r i)).map ≡ Some (listed t r m)
    finds_map m least = by_map (canonical (problem_of t r) (branch_at t r i)).map refl
      where
        by_map : (o : Option (List ℕ)) → (canonical (problem_of t r) (branch_at t r i)).map ≡ o → o ≡ Some (listed t r m)
        by_map None found =
            absurd ((canonical_answers (problem_of t r) (task_well_formed t r is) (branch_at t r i) (branch_is_box t r i is there)).none found (listed t r m) (listed_solves t r m least.decides) least.lies)
        by_map (Some n) found =
            ap Some (one_least (problem_of t r) (branch_at t r i) n (listed t r m)
            (canonical_least (problem_of t r) (branch_at t r i) n (task_well_formed t r is) (branch_is_box t r i is there) found) (least_solution m least))

    pub leading_lines : (m : View → ℕ) (ls : List Line) → IsLeastInBranch t r i m → LeadsToMapIn t r i (listed t r m) ls → HasCanonicalMap (problem_of t r) (listed t r m) (branch_at t r i) ls
    leading_lines m ls least leads = λ j. record { lines = sym leads.canonical_lines j; map = finds_map m least j }

  -- ---- the whole question

  -- the least decision map is the least solution in the root
  least_in_whole : (m : View → ℕ) → IsLeast t r m → IsLeastIn (problem_of t r) (root (problem_of t r)) (listed t r m)
  least_in_whole m least = record {
    solves = listed_solves t r m least.decides;
    lies = solution_in_root t r (listed t r m) is (listed_solves t r m least.decides);
    least = λ other solves lies.
        subst (λ xs. IsBelowOrSame (listed t r m) xs) (listed_by_number t r other solves.long) (least.least (by_number t r other) (solution_decides t r other solves));
  }

  whole_none : HasNoDecisionMap t r → (canonical (problem_of t r) (root (problem_of t r))).map ≡ None
  whole_none nothing = by_map (canonical (problem_of t r) (root (problem_of t r))).map refl
    where
      by_map : (o : Option (List ℕ)) → (canonical (problem_of t r) (root (problem_of t r))).map ≡ o → o ≡ None
      by_map None found = refl
      by_map (Some m) found = absurd (nothing (by_number t r m) (answer_least t r m is found).decides)

  whole_map : (m : View → ℕ) → IsLeast t r m → (canonical (problem_of t r) (root (problem_of t r))).map ≡ Some (listed t r m)
  whole_map m least = by_map (canonical (problem_of t r) (root (problem_of t r))).map refl
    where
      by_map : (o : Option (List ℕ)) → (canonical (problem_of t r) (root (problem_of t r))).map ≡ o → o ≡ Some (listed t r m)
      by_map None found = absurd (answer_none t r is found m least.decides)
      by_map (Some n) found =
          let well = task_well_formed t r is in
          ap Some (one_least (problem_of t r) (root (problem_of t r)) n (listed t r m)
          (canonical_least (problem_of t r) (root (problem_of t r)) n well (root_is_box (problem_of t r) well) found) (least_in_whole m least))

  -- what a search answers and writes, by the map that the canonical search finds
  abbrev answer_by : Form → Option (List ℕ) → Outcome × List ℕ
  answer_by asked None = (outcome.Nothing, text_of_report t r (body_of_none asked (canonical (problem_of t r) (root (problem_of t r))).lines))
  answer_by asked (Some m) = (outcome.Map, text_of_report t r (body_of_map asked m (canonical (problem_of t r) (root (problem_of t r))).lines))

  by_canonical : (asked : Form) (found : Outcome) (text : List ℕ) → IsFound asked t r found text → (found, text) ≡ answer_by asked (canonical (problem_of t r) (root (problem_of t r))).map
  by_canonical asked outcome.Map text (m, ls, least, leads, same) =
      (λ j. (outcome.Map, (same ∙ ap (λ x. text_of_report t r (body_of_map asked (listed t r m) x)) leads.canonical_lines) j)) ∙ ap (answer_by asked) (sym (whole_map m least))
  by_canonical asked outcome.Nothing text (ls, refuted, same) =
      (λ j. (outcome.Nothing, (same ∙ ap (λ x. text_of_report t r (body_of_none asked x)) refuted.canonical_lines) j)) ∙ ap (answer_by asked) (sym (whole_none refuted.no_map))

  -- no two searches of the whole question write other texts
  pub one_text : (asked : Form) (found other : Outcome) (text more : List ℕ) → IsFound asked t r found text → IsFound asked t r other more → (other ≡ found) × (more ≡ text)
  one_text asked found other text more solved again =
      let same : (other, more) ≡ (found, text) = by_canonical asked other more again ∙ sym (by_canonical asked found text solved) in
      (ap (λ (x : Outcome × List ℕ). x.0) same, ap (λ (x : Outcome × List ℕ). x.1) same)
