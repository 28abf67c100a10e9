-- The lines of parts are in the grammar of reports, as those of the whole question are.
use Rattle.std.proofs.Common.{◌≤◌, ℕ, suc, List, [], ◌∷◌, ◌++◌, length, sym, ap, subst, arith}
use Rattle.std.specs.List.{AllByRecursion}
use Rattle.wf_model.specs.Task.{Task, IsTask}
use Rattle.wf_model.specs.View.{View}
use Rattle.wf_model.specs.DecisionMap.{IsDecisionMap, listed}
use Rattle.wf_model.specs.Problem.{Problem, problem_of}
use Rattle.wf_model.specs.Box.{Box, branches_at, root, without}
use Rattle.wf_model.specs.Refutation.{Line, remove, empty, branch, found, Tree, emptied, removed, branched, ended, Trees, no_trees, tree, lines, lines_each, Refutes, RefutesEach}
use Rattle.wf_model.specs.Closing.{Trace}
use Rattle.wf_model.specs.Outline.{Item, boxes_left_out, filled, filled_up_to, left_out, outline, written}
use Rattle.wf_model.specs.Report.{Body, a_map, none, least, report_about}
use Rattle.wf_model.specs.Laws.{HasCanonicalLines, HasCanonicalMap}
use Rattle.wf_model.proofs.Lemmas.{weaker, canonical_none_refutes, boxes_outline, both, each_append, canonical_leads, root_is_box, task_well_formed}
use Rattle.wf_sat_formula.specs.Branches.{branch_at, branches}
use Rattle.wf_report.specs.Grammar.{IsBodyWithin, IsInGrammar, IsLineWithin, IsStepWithin}
use Rattle.wf_run.specs.Run.{HasComplex}
use Rattle.wf_run_verify.proofs.Lemmas.{least_within, none_within}
use Rattle.wf_run_branches.proofs.ReportEnds.{step_of_line}
use Rattle.wf_run_branches.proofs.PartLists.{AreRefutationsFrom}

-- ---- the lists that an outline is filled with

module _ {X : Type 0} (P : X → Type 0) where
  each_first : (xs ys : List X) → AllByRecursion P (xs ++ ys) → AllByRecursion P xs
  each_first [] ys h = tt
  each_first (x ∷ xs) ys h = (h.0, each_first xs ys h.1)

  each_later : (xs ys : List X) → AllByRecursion P (xs ++ ys) → AllByRecursion P ys
  each_later [] ys h = h
  each_later (x ∷ xs) ys h = each_later xs ys h.1

module _ (P : Line → Type 0) where
  -- what holds of all lines holds of those of each list
  in_filled : (items : List Item) (lists : List (List Line)) → length lists ≤ length (boxes_left_out items) → AllByRecursion P (filled items lists) → AllByRecursion (AllByRecursion P) lists
  in_filled items [] few h = tt
  in_filled [] (ls ∷ lists) few h = absurd (omega (arith, few))
  in_filled (written l ∷ items) (ls ∷ lists) few h = in_filled items (ls ∷ lists) few h.1
  in_filled (left_out box ∷ items) (ls ∷ lists) few h =
      (each_first P ls (filled items lists) h, in_filled items lists (omega (arith, few)) (each_later P ls (filled items lists) h))

  in_filled_up : (items : List Item) (lists : List (List Line)) → length lists ≤ length (boxes_left_out items) → AllByRecursion P (filled_up_to items lists) → AllByRecursion (AllByRecursion P) lists
  in_filled_up items [] few h = tt
  in_filled_up [] (ls ∷ lists) few h = absurd (omega (arith, few))
  in_filled_up (written l ∷ items) (ls ∷ lists) few h = in_filled_up items (ls ∷ lists) few h.1
  in_filled_up (left_out box ∷ items) (ls ∷ []) few h = (h, tt)
  in_filled_up (left_out box ∷ items) (ls ∷ next ∷ lists) few h =
      (each_first P ls (filled_up_to items (next ∷ lists)) h, in_filled_up items (next ∷ lists) (omega (arith, few)) (each_later P ls (filled_up_to items (next ∷ lists)) h))

-- ---- lines that refute end in no map

abbrev IsNoEnd : Line → Type 0
IsNoEnd (remove e c a) = Unit {0}
IsNoEnd (empty v) = Unit {0}
IsNoEnd (branch v) = Unit {0}
IsNoEnd found = ⊥

mutual
  no_end : (p : Problem) (shape : Tree) (box : Box) → Refutes p shape box → AllByRecursion IsNoEnd (lines shape)
  no_end p (emptied v) box h = (tt, tt)
  no_end p (removed e c a v rest) box h = (tt, no_end p rest (without box v a) h.1)
  no_end p (branched v blocks) box h = (tt, no_end_each p blocks (branches_at box v) h.1)
  no_end p ended box h = absurd h

  no_end_each : (p : Problem) (shapes : Trees) (boxes : List Box) → RefutesEach p shapes boxes → AllByRecursion IsNoEnd (lines_each shapes)
  no_end_each p no_trees boxes h = tt
  no_end_each p (tree shape shapes) [] h = absurd h
  no_end_each p (tree shape shapes) (box ∷ boxes) h = each_append IsNoEnd (lines shape) (lines_each shapes) (no_end p shape box h.0) (no_end_each p shapes boxes h.1)

line_of_step : (l : Line) → IsStepWithin l → IsNoEnd l → IsLineWithin l
line_of_step (remove e c a) h other = h
line_of_step (empty v) h other = h
line_of_step (branch v) h other = h
line_of_step found h other = absurd other

-- ---- reports of the branches

module _ (t : Task) (r : ℕ) where
  -- the report with this answer is in the grammar
  abbrev pub IsWithin : Body → Type 0
  IsWithin body = IsInGrammar (report_about t r body)

  -- so is one with another answer, if that is
  with_body : (body other : Body) → IsWithin body → IsBodyWithin other → IsWithin other
  with_body body other h within = record { processes = h.processes; rounds = h.rounds; points = h.points; executions = h.executions; body = within }

  lists_within : (body : Body) (i : ℕ) (lists : List (List Line)) → IsWithin body → AreRefutationsFrom t r i lists → AllByRecursion (AllByRecursion IsStepWithin) lists → AllByRecursion (λ ls. IsWithin (none ls)) lists
  lists_within body i [] whole refuted h = tt
  lists_within body i (ls ∷ lists) whole refuted h =
      let shape = refuted.0.refutes in
      let other : AllByRecursion IsNoEnd ls = subst (AllByRecursion IsNoEnd) shape.1 (no_end (problem_of t r) shape.0 (branch_at t r i) shape.2) in
      (with_body body (none ls) whole (both IsStepWithin IsNoEnd IsLineWithin line_of_step ls h.0 other), lists_within body (suc i) lists whole refuted.1 h.1)

  as_many : (lists : List (List Line)) → length lists ≤ length (branches t r) → length lists ≤ length (boxes_left_out (outline (problem_of t r)))
  as_many lists few = subst (λ n. length lists ≤ n) (sym (ap length (boxes_outline (problem_of t r)))) few

  module _ (is : IsTask t) (within : HasComplex t r) where
    -- where none has a map
    pub nones_within : (lists : List (List Line)) → AreRefutationsFrom t r 0 lists → length lists ≤ length (branches t r) → HasCanonicalLines (problem_of t r) (root (problem_of t r)) (filled (outline (problem_of t r)) lists)
        → AllByRecursion (λ ls. IsWithin (none ls)) lists
    nones_within lists refuted few whole =
        let p = problem_of t r in
        let shape = canonical_none_refutes p (root p) (ap (λ (s : Trace). s.map) whole) in
        let all = none_within t r is within shape.0 shape.1 shape.2 in
        let each : AllByRecursion IsLineWithin (filled (outline p) lists) = subst (AllByRecursion IsLineWithin) (ap (λ (s : Trace). s.lines) whole) all.body in
        lists_within _ 0 lists all refuted (in_filled IsStepWithin (outline p) lists (as_many lists few) (weaker IsLineWithin IsStepWithin step_of_line (filled (outline p) lists) each))

    -- up to a branch that has one
    pub record AreWithin (m : List ℕ) (lists : List (List Line)) (ls : List Line) : Type 0 where
      pub nones : AllByRecursion (λ ls. IsWithin (none ls)) lists
      pub alone : IsWithin (a_map m)
      pub with_lines : IsWithin (least m ls)

    pub map_within : (m : View → ℕ) (lists : List (List Line)) (ls : List Line) → IsDecisionMap t r m → AreRefutationsFrom t r 0 lists → length (lists ++ ls ∷ []) ≤ length (branches t r)
        → HasCanonicalMap (problem_of t r) (listed t r m) (root (problem_of t r)) (filled_up_to (outline (problem_of t r)) (lists ++ ls ∷ [])) → AreWithin (listed t r m) lists ls
    map_within m lists ls decides refuted few whole =
        let p = problem_of t r in
        let shape = canonical_leads p (root p) (listed t r m) (root_is_box p (task_well_formed t r is)).ascending (ap (λ (s : Trace). s.map) whole) in
        let all = least_within t r is within m decides shape.0 shape.1 shape.2 in
        let each : AllByRecursion IsStepWithin (filled_up_to (outline p) (lists ++ ls ∷ [])) = subst (AllByRecursion IsStepWithin) (ap (λ (s : Trace). s.lines) whole) all.body.1 in
        let apart = in_filled_up IsStepWithin (outline p) (lists ++ ls ∷ []) (as_many (lists ++ ls ∷ []) few) each in
        let last = each_later (AllByRecursion IsStepWithin) lists (ls ∷ []) apart in
        record {
          nones = lists_within _ 0 lists all refuted (each_first (AllByRecursion IsStepWithin) lists (ls ∷ []) apart);
          alone = with_body _ (a_map (listed t r m)) all all.body.0;
          with_lines = with_body _ (least (listed t r m) ls) all (all.body.0, last.0);
        }
