-- What a checker's answer about a whole report means.
use Rattle.std.proofs.Common.{◌≡◌, ◌==◌, ℕ, ◌+◌, not, cond, List, [], ◌∷◌, length, Option, Some, None, refl, sym, ◌∙◌, subst, inl, inr, eqb-true, eq-eqb}
use Rattle.std.proofs.lemmas.Bool.{cases_Bool}
use Rattle.std.proofs.lemmas.List.{length-map}
use Rattle.wf_model.specs.View.{View}
use Rattle.wf_model.specs.Task.{Task, IsTask}
use Rattle.wf_model.specs.Execution.{executions}
use Rattle.wf_model.specs.Points.{points}
use Rattle.wf_model.specs.DecisionMap.{IsDecisionMap, IsLeast, listed}
use Rattle.wf_model.specs.Problem.{IsSolution, constraint_of, problem_of}
use Rattle.wf_model.specs.Box.{root}
use Rattle.wf_model.specs.Refutation.{Line, Tree, lines, Refutes}
use Rattle.wf_model.specs.LeastTree.{IsLeastTree}
use Rattle.wf_model.specs.Closing.{canonical}
use Rattle.wf_model.specs.Report.{Report, Body, a_map, none, least, report_about}
use Rattle.wf_model.specs.Check.{Refusal, map_fault, first_least_fault, header_fault, unless_fault, body_fault, report_fault}
use Rattle.wf_model.proofs.MapsAreSolutions.{by_number, listed_solves, solution_decides}
use Rattle.wf_model.proofs.Headline.{no_decision_map}
use Rattle.wf_model.proofs.FaultlessLines.{root_accepted}
use Rattle.wf_model.proofs.WellFormed.{task_listed, task_well_formed}
use Rattle.wf_model.proofs.Numbers.{listed_by_number}
use Rattle.wf_model.proofs.SolutionTests.{faultless}
use Rattle.wf_model.proofs.LeastSolutions.{root_is_box, canonical_least}
use Rattle.wf_model.proofs.LeastTrees.{tree_least_map}
use Rattle.wf_model.proofs.LeastChecked.{accepted_leads, leading_lines_accepted}
use Rattle.wf_model.proofs.LinesToMaps.{canonical_leads}
use Rattle.wf_model.proofs.CanonicalRefutations.{canonical_none_refutes}
use Rattle.wf_model.proofs.RefutingLines.{root_accepts}

-- ---- without a fault

pub no_fault : (first next : Option Refusal) → unless_fault first next ≡ None → (first ≡ None) × (next ≡ None)
no_fault None next h = (refl, h)
no_fault (Some f) next h = absurd (let never : ⊥ = cc in never)

-- a number of the header, and those that come after it
right_number : (a b : ℕ) (f : Refusal) (next : Option Refusal) → cond (not (a == b)) (Some f) next ≡ None → (a ≡ b) × (next ≡ None)
right_number a b f next h =
    elim (cases_Bool (a == b)) [
      | inl same ↦ (eqb-true a b same, rw same at h)
      | inr other ↦ absurd (let some : Some f ≡ None = rw other at h in let never : ⊥ = cc in never)
    ]

-- the numbers are right
pub record HasNumbers (t : Task) (r : ℕ) (report : Report) : Type 0 where
  pub processes : report.processes ≡ t.processes
  pub rounds : report.rounds ≡ r
  pub points : report.points ≡ length (points t r)
  pub executions : report.executions ≡ length (executions t r)

pub right_numbers : (t : Task) (r : ℕ) (report : Report) → header_fault t r (problem_of t r) report ≡ None → HasNumbers t r report
right_numbers t r report h =
    let first = right_number report.processes t.processes _ _ h in
    let second = right_number report.rounds r _ _ first.1 in
    let third = right_number report.points (length (points t r)) _ _ second.1 in
    let fourth = right_number report.executions (length (problem_of t r).constraints) _ _ third.1 in record {
      processes = first.0;
      rounds = second.0;
      points = third.0;
      executions = fourth.0 ∙ length-map (executions t r) (constraint_of t (points t r));
    }

module _ (t : Task) (r : ℕ) where
  -- the fault of the body is asked for where the numbers are right
  parts : (report : Report) → report_fault t r report ≡ None → (header_fault t r (problem_of t r) report ≡ None) × (body_fault (problem_of t r) report.body ≡ None)
  parts report h = no_fault (header_fault t r (problem_of t r) report) (body_fault (problem_of t r) report.body) h

  pub numbers : (report : Report) → report_fault t r report ≡ None → HasNumbers t r report
  numbers report h = right_numbers t r report (parts report h).0

  body_of : (report : Report) (body : Body) → report_fault t r report ≡ None → report.body ≡ body → body_fault (problem_of t r) body ≡ None
  body_of report body h is = subst (λ b. body_fault (problem_of t r) b ≡ None) is (parts report h).1

  -- a map alone
  solves_alone : (report : Report) (m : List ℕ) → report_fault t r report ≡ None → report.body ≡ a_map m → IsSolution (problem_of t r) m
  solves_alone report m h is = (faultless (problem_of t r) m).0 (body_of report (a_map m) h is)

  pub map_decides : (report : Report) (m : List ℕ) → report_fault t r report ≡ None → report.body ≡ a_map m → IsDecisionMap t r (by_number t r m)
  map_decides report m h is = solution_decides t r m (solves_alone report m h is)

  pub map_listed : (report : Report) (m : List ℕ) → report_fault t r report ≡ None → report.body ≡ a_map m → listed t r (by_number t r m) ≡ m
  map_listed report m h is = listed_by_number t r m (solves_alone report m h is).long

  -- lines alone
  pub lines_refute : (report : Report) (ls : List Line) → IsTask t → report_fault t r report ≡ None → report.body ≡ none ls → (m : View → ℕ) → IsDecisionMap t r m → ⊥
  lines_refute report ls task h is =
      let tree = root_accepted (problem_of t r) 7 ls (body_of report (none ls) h is) in
      no_decision_map t r tree.0 (task_listed t task) tree.2

  -- a map with lines
  both_right : (report : Report) (m : List ℕ) (ls : List Line) → report_fault t r report ≡ None → report.body ≡ least m ls →
      (map_fault (problem_of t r) m ≡ None) × (first_least_fault (problem_of t r) m (7 + length m) ls (root (problem_of t r) ∷ []) ≡ None)
  both_right report m ls h is = no_fault (map_fault (problem_of t r) m) (first_least_fault (problem_of t r) m (7 + length m) ls (root (problem_of t r) ∷ [])) (body_of report (least m ls) h is)

  solves_least : (report : Report) (m : List ℕ) (ls : List Line) → report_fault t r report ≡ None → report.body ≡ least m ls → IsSolution (problem_of t r) m
  solves_least report m ls h is = (faultless (problem_of t r) m).0 (both_right report m ls h is).0

  pub lines_lead : (report : Report) (m : List ℕ) (ls : List Line) → IsTask t → report_fault t r report ≡ None → report.body ≡ least m ls → IsLeast t r (by_number t r m)
  lines_lead report m ls task h is =
      let is_box = root_is_box (problem_of t r) (task_well_formed t r task) in
      let tree = accepted_leads (problem_of t r) (root (problem_of t r)) m (7 + length m) ls is_box (both_right report m ls h is).1 in
      tree_least_map t r m tree.0 task (solves_least report m ls h is) tree.2

  pub least_listed : (report : Report) (m : List ℕ) (ls : List Line) → report_fault t r report ≡ None → report.body ≡ least m ls → listed t r (by_number t r m) ≡ m
  least_listed report m ls h is = listed_by_number t r m (solves_least report m ls h is).long

-- ---- true reports

passes_number : (a b : ℕ) (f : Refusal) (next : Option Refusal) → a ≡ b → next ≡ None → cond (not (a == b)) (Some f) next ≡ None
passes_number a b f next same h = rw (eq-eqb a b same) h

pub both_pass : (first next : Option Refusal) → first ≡ None → next ≡ None → unless_fault first next ≡ None
both_pass None next passes after = after
both_pass (Some f) next passes after = absurd (let never : ⊥ = cc in never)

module _ (t : Task) (r : ℕ) where
  -- the numbers of a report about the task have no fault
  pub numbers_pass : (body : Body) → header_fault t r (problem_of t r) (report_about t r body) ≡ None
  numbers_pass body =
      passes_number t.processes t.processes _ _ refl
      (passes_number r r _ _ refl
      (passes_number (length (points t r)) (length (points t r)) _ _ refl
      (passes_number (length (executions t r)) (length (problem_of t r).constraints) _ _ (sym (length-map (executions t r) (constraint_of t (points t r)))) refl)))

  by_body : (body : Body) → body_fault (problem_of t r) body ≡ None → report_fault t r (report_about t r body) ≡ None
  by_body body h = both_pass (header_fault t r (problem_of t r) (report_about t r body)) (body_fault (problem_of t r) body) (numbers_pass body) h

  pub map_accepted : (m : View → ℕ) → IsDecisionMap t r m → report_fault t r (report_about t r (a_map (listed t r m))) ≡ None
  map_accepted m decides = by_body (a_map (listed t r m)) ((faultless (problem_of t r) (listed t r m)).1 (listed_solves t r m decides))

  pub refutation_accepted : (refutation : Tree) → IsTask t → Refutes (problem_of t r) refutation (root (problem_of t r)) → report_fault t r (report_about t r (none (lines refutation))) ≡ None
  refutation_accepted refutation task refutes = by_body (none (lines refutation)) (root_accepts (problem_of t r) (task_well_formed t r task) 7 refutation refutes)

  -- a solution with the lines of a tree that leads to it
  leading_accepted : (m : List ℕ) (tree : Tree) → IsTask t → IsSolution (problem_of t r) m → IsLeastTree (problem_of t r) m tree (root (problem_of t r)) → report_fault t r (report_about t r (least m (lines tree))) ≡ None
  leading_accepted m tree task solves leads =
      let well = task_well_formed t r task in
      by_body (least m (lines tree)) (both_pass (map_fault (problem_of t r) m) (first_least_fault (problem_of t r) m (7 + length m) (lines tree) (root (problem_of t r) ∷ []))
      ((faultless (problem_of t r) m).1 solves)
      (leading_lines_accepted (problem_of t r) (root (problem_of t r)) m (7 + length m) tree well (root_is_box (problem_of t r) well).long leads))

  pub least_tree_accepted : (m : View → ℕ) (tree : Tree) → IsTask t → IsDecisionMap t r m → IsLeastTree (problem_of t r) (listed t r m) tree (root (problem_of t r)) → report_fault t r (report_about t r (least (listed t r m) (lines tree))) ≡ None
  least_tree_accepted m tree task decides leads = leading_accepted (listed t r m) tree task (listed_solves t r m decides) leads

  -- what the canonical search writes
  pub canonical_none_accepted : IsTask t → (canonical (problem_of t r) (root (problem_of t r))).map ≡ None → report_fault t r (report_about t r (none (canonical (problem_of t r) (root (problem_of t r))).lines)) ≡ None
  canonical_none_accepted task h =
      let tree = canonical_none_refutes (problem_of t r) (root (problem_of t r)) h in
      subst (λ ls. report_fault t r (report_about t r (none ls)) ≡ None) tree.1 (refutation_accepted tree.0 task tree.2)

  pub canonical_least_accepted : (m : List ℕ) → IsTask t → (canonical (problem_of t r) (root (problem_of t r))).map ≡ Some m → report_fault t r (report_about t r (least m (canonical (problem_of t r) (root (problem_of t r))).lines)) ≡ None
  canonical_least_accepted m task h =
      let well = task_well_formed t r task in
      let is_box = root_is_box (problem_of t r) well in
      let tree = canonical_leads (problem_of t r) (root (problem_of t r)) m is_box.ascending h in
      let solves = (canonical_least (problem_of t r) (root (problem_of t r)) m well is_box h).solves in
      subst (λ ls. report_fault t r (report_about t r (least m ls)) ≡ None) tree.1 (leading_accepted m tree.0 task solves tree.2)
