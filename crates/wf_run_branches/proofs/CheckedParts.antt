-- What is accepted of a part, in the terms of the task; and the counts of a check of one.
use Rattle.std.proofs.Common.{◌≡◌, ℕ, ◌+◌, ◌++◌, Bool, true, false, not, List, [], ◌∷◌, length, None, Result, Ok, Err, refl, sym, ap, subst, ◌∙◌, arith}
use Rattle.std.proofs.lemmas.Bool.{and_parts}
use Rattle.std.proofs.lemmas.List.{append-nil}
use Rattle.wf_model.specs.Lists.{has}
use Rattle.wf_model.specs.Limits.{most_bytes}
use Rattle.wf_model.specs.Task.{Task, IsTask}
use Rattle.wf_model.specs.Box.{Box, LiesIn}
use Rattle.wf_model.specs.Problem.{problem_of}
use Rattle.wf_model.specs.DecisionMap.{listed}
use Rattle.wf_model.specs.Refutation.{Line, Tree, Trees, no_trees, tree, lines, lines_each, Refutes, RefutesEach}
use Rattle.wf_model.specs.Report.{Report, Body, a_map, none, least, report_about, report_text}
use Rattle.wf_model.specs.Check.{first_least_fault, header_fault, map_fault}
use Rattle.wf_model.proofs.Lemmas.{by_number, listed_solves, solution_decides, listed_by_number, accepted, accepted_leads, tree_least, none_refutes, faultless, task_well_formed, no_fault, right_numbers}
use Rattle.wf_sat_formula.specs.Branches.{branch_at, branches}
use Rattle.wf_base.specs.Streams.Seen.{Reading, Writing}
use Rattle.wf_base.specs.Streams.Texts as io
use Rattle.wf_base.specs.Streams.Texts.{Gave, ReadsText, Wrote}
use Rattle.wf_base.specs.declared.streams.source.ReadFault.{ReadFault}
use Rattle.wf_base.specs.declared.streams.source.ReadFault.TheVariants as read
use Rattle.wf_report.proofs.Lemmas.{read_written}
use Rattle.wf_report_check.specs.Within.{fault_within, report_fault_within}
use Rattle.wf_run.specs.Laws.{IsChecked}
use Rattle.wf_run.specs.Run.{Judged, Next, by_result, failed_reads, failed_writes}
use Rattle.wf_run.specs.Sources.{NextReads}
use Rattle.wf_run.specs.Texts.{text_of_report}
use Rattle.wf_run_verify.specs.Verify.{accepted_words}
use Rattle.wf_run.specs.declared.fault.RunFault.{RunFault}
use Rattle.wf_run.specs.declared.fault.RunFault.TheVariants as run
use Rattle.wf_run.proofs.Lemmas.{IsReadCounted, done, few}
use Rattle.wf_run.proofs.Lemmas as both
use Rattle.wf_run_branches.specs.Branches.{HasBranch}
use Rattle.wf_run_branches.specs.Laws.{GaveTruePart, PartAcceptancesAreTrue}
use Rattle.wf_run_branches.specs.Refuting.{FindsBranch, ReadsIn, accepted_in}
use Rattle.wf_run_branches.specs.Solving.{part_head, part_text}
use Rattle.wf_run_branches.specs.Verifying.{ChecksPart, HoldsIn, IsFaultlessIn, IsPartOf, JudgesPart, ReadsPart, VerifiesBranch, is_outside, lies_in}
use Rattle.wf_run_branches.proofs.Counts.{missing}
use Rattle.wf_run_branches.proofs.BranchAnswers.{branch_is_box, least_there}

-- ---- a part without a fault is true

-- where each value is a candidate, the map lies in the box
lies : (m : List ℕ) (box : Box) → lies_in m box ≡ true → LiesIn m box
lies [] [] h = tt
lies [] (set ∷ box) h = absurd (let bad : ⊥ = cc in bad)
lies (a ∷ m) [] h = absurd (let bad : ⊥ = cc in bad)
lies (a ∷ m) (set ∷ box) h = let parts = and_parts (has set a) (lies_in m box) h in (parts.0, lies m box parts.1)

kept : (b : Bool) → not b ≡ false → b ≡ true
kept true h = refl
kept false h = absurd (let bad : ⊥ = cc in bad)

module _ (t : Task) (r i : ℕ) (is : IsTask t) (has_branch : HasBranch t r i) where
  -- lines without a fault are those of a tree that refutes the branch
  one_tree : (ts : Trees) (ls : List Line) → lines_each ts ≡ ls → RefutesEach (problem_of t r) ts (branch_at t r i ∷ []) → (tr : Tree) × (lines tr ≡ ls) × Refutes (problem_of t r) tr (branch_at t r i)
  one_tree no_trees ls e refutes = absurd refutes
  one_tree (tree tr no_trees) ls e refutes = (tr, sym (append-nil (lines tr)) ∙ e, refutes.0)
  one_tree (tree tr (tree u us)) ls e refutes = absurd refutes.1

  body_true : (body : Body) → fault_within (problem_of t r) (branch_at t r i) body ≡ None → is_outside body (branch_at t r i) ≡ false → HoldsIn t r i body
  body_true (a_map m) clear inside =
      let solves = (faultless (problem_of t r) m).0 clear in
      (by_number t r m, solution_decides t r m solves, listed_by_number t r m solves.long, lies m (branch_at t r i) (kept (lies_in m (branch_at t r i)) inside))
  body_true (none ls) clear inside = λ m decides within.
      let box = branch_is_box t r i is has_branch in
      let all = accepted (problem_of t r) 7 ls (branch_at t r i ∷ []) (box.long, tt) clear in
      let refuted = one_tree all.0 ls all.1 all.2 in
      none_refutes (problem_of t r) (task_well_formed t r is).in_range (listed t r m) (listed_solves t r m decides) refuted.0 (branch_at t r i) refuted.2 within
  body_true (least m ls) clear inside =
      let box = branch_is_box t r i is has_branch in
      let parts = no_fault (map_fault (problem_of t r) m) (first_least_fault (problem_of t r) m (7 + length m) ls (branch_at t r i ∷ [])) clear in
      let solves = (faultless (problem_of t r) m).0 parts.0 in
      let leads = accepted_leads (problem_of t r) (branch_at t r i) m (7 + length m) ls box parts.1 in (
        by_number t r m,
        least_there t r i m (tree_least (problem_of t r) (branch_at t r i) m leads.0 (task_well_formed t r is).in_range box.ascending solves leads.2),
        listed_by_number t r m solves.long,
      )

  pub part_true : (report : Report) → report_fault_within t r (branch_at t r i) report ≡ None → is_outside report.body (branch_at t r i) ≡ false → IsFaultlessIn t r i report
  part_true report clear inside = record {
    faultless = clear;
    holds = body_true report.body (no_fault (header_fault t r (problem_of t r) report) (fault_within (problem_of t r) (branch_at t r i) report.body) clear).1 inside;
  }

-- ---- what was read

module _ (t : Task) (r i : ℕ) where
  -- a report without a fault is about the task and these rounds
  about_rounds : (report : Report) → report_fault_within t r (branch_at t r i) report ≡ None → report ≡ report_about t r report.body
  about_rounds report clear =
      let n = right_numbers t r report (no_fault (header_fault t r (problem_of t r) report) (fault_within (problem_of t r) (branch_at t r i) report.body) clear).0 in
      λ k. record { processes = n.processes k; rounds = n.rounds k; points = n.points k; executions = n.executions k; body = report.body }

  part_as_read : (text : List ℕ) (report : Report) → IsPartOf i (length (branches t r)) text (Ok report) → IsFaultlessIn t r i report → text ≡ part_text t r i report.body
  unfolding text_of_report
  part_as_read text report (rest, is, few, read) right =
      is ∙ ap (λ x. part_head i (length (branches t r)) ++ x) ((read_written rest report read).0 ∙ ap report_text (about_rounds report right.faultless))

-- ---- where it ends well

module _ (i : ℕ) (t : Task) (r : ℕ) (old new : Reading) (written : List ℕ) where
  -- what was given and accepted, and the line that says so
  abbrev Accepted : Type 0
  Accepted =
      (body : Body) × Gave old new (part_text t r i body) 0 × HoldsIn t r i body
      × (written ≡ accepted_in (accepted_words body) i (length (branches t r)) r)

  of_report : (text : List ℕ) (report : Result Report RunFault) → Gave old new text 0 → IsPartOf i (length (branches t r)) text report
      → Next (ChecksPart i t r) report (Ok (tt, written)) → Accepted
  of_report text (Ok found) gave is next =
      (found.body, subst (λ x. Gave old new x 0) (part_as_read t r i text found is next.0) gave, next.0.holds, next.1)
  of_report text (Err e) gave is next = absurd (let bad : ⊥ = cc in bad)

  of_text : (text : Result (List ℕ) ReadFault) → ReadsText most_bytes old new text → Judged (JudgesPart i t r) text (Ok (tt, written)) → Accepted
  of_text (Ok text) (given, gave, same) (report, is, next) =
      of_report given report gave (subst (λ x. IsPartOf i (length (branches t r)) x report) same.0 is) next
  of_text (Err e) reads judged = absurd (let bad : ⊥ = cc in bad)

  of_branch : (found : Result (Unit {0}) RunFault) → FindsBranch t r i found → NextReads (λ there. ReadsPart i t r) old new found (Ok (tt, written)) → HasBranch t r i × Accepted
  of_branch (Ok there) has (text, reads, judged) = (has, of_text text reads judged)
  of_branch (Err e) has next = absurd (let bad : ⊥ = cc in bad)

pub part_acceptances_true : PartAcceptancesAreTrue
part_acceptances_true r i task task' part part' sink sink' ran =
    let end = done (ReadsIn ReadsPart i) r task task' part part' sink sink' ran in
    let (has, (body, gave, holds, same)) = of_branch i end.t r part part' end.text end.read.0 end.read.1 end.read.2 in
    let truth : GaveTruePart task task' part part' end.t r i body = record { task_given = end.given; has_branch = has; part_given = gave; holds = holds } in
    (end.t, body, truth, subst (λ text. Wrote sink sink' text) same end.wrote)

-- ---- counts

module _ (i : ℕ) (t : Task) (r : ℕ) where
  of_part : (text : List ℕ) (report : Result Report RunFault) (answer : Result (Unit {0} × List ℕ) RunFault) → IsPartOf i (length (branches t r)) text report → Next (ChecksPart i t r) report answer
      → (by_result failed_reads answer ≡ 0) × (by_result failed_writes answer ≡ 0)
  of_part text (Ok found) (Ok a) is next = (refl, refl)
  of_part text (Ok found) (Err (run.Cert e)) is next = (refl, refl)
  of_part text (Ok found) (Err run.Read) is next = absurd next
  of_part text (Ok found) (Err run.Write) is next = absurd next
  of_part text (Ok found) (Err e) is next = (refl, refl)
  of_part text (Err run.Read) answer is next = absurd is.2
  of_part text (Err run.Write) answer is next = absurd is.2
  of_part text (Err e) answer is next = (ap (by_result failed_reads) next, ap (by_result failed_writes) next)

  judged_part : (text : Result (List ℕ) ReadFault) (answer : Result (Unit {0} × List ℕ) RunFault) → Judged (JudgesPart i t r) text answer
      → (io.failed_reads text ≡ by_result failed_reads answer) × (by_result failed_writes answer ≡ 0)
  judged_part (Ok text) answer (report, is, next) = let none = of_part text report answer is next in (sym none.0, none.1)
  judged_part (Err read.TooLong) answer j = (sym (ap (by_result failed_reads) j), ap (by_result failed_writes) j)
  judged_part (Err read.OutOfMemory) answer j = (sym (ap (by_result failed_reads) j), ap (by_result failed_writes) j)
  judged_part (Err read.Read) answer j = (sym (ap (by_result failed_reads) j), ap (by_result failed_writes) j)

read_counted : (i : ℕ) (t : Task) (r : ℕ) (old new : Reading) (found : Result (Unit {0}) RunFault) (answer : Result (Unit {0} × List ℕ) RunFault)
    → FindsBranch t r i found → NextReads (λ there. ReadsPart i t r) old new found answer → IsReadCounted most_bytes old new answer
read_counted i t r old new (Ok there) answer is (text, (given, gave, read), judged) =
    let counts = judged_part i t r text answer judged in
    let bound = few most_bytes given new.left text read in
    let reads = counts.0 in
    let fails = gave.failures in
    record { taken = omega (arith, gave.taken, bound); failures = omega (arith, fails, reads); writes = counts.1 }
read_counted i t r old new (Err e) answer is (refused, same) =
    let takes : new.taken ≡ old.taken = ap (λ s. s.taken) same in
    let fails : new.failures ≡ old.failures = ap (λ s. s.failures) same in
    let none : by_result failed_reads answer ≡ 0 = ap (by_result failed_reads) refused ∙ (missing t r i e is).0 in
    record { taken = omega (arith, takes); failures = omega (arith, fails, none); writes = ap (by_result failed_writes) refused ∙ (missing t r i e is).1 }

pub part_checked : (r i : ℕ) (task task' part part' : Reading) (sink sink' : Writing) (result : Result (Unit {0}) RunFault)
    → VerifiesBranch r i task task' part part' sink sink' result → IsChecked most_bytes task task' part part' sink sink' result
part_checked r i =
    both.counted_over_two most_bytes (ReadsIn ReadsPart i) r (λ t old new answer reads. read_counted i t r old new reads.0 answer reads.1 reads.2)
