-- What a search of a branch answers, in the terms of the task.
use Rattle.std.proofs.Common.{◌≡◌, ℕ, List, [], map, Result, Ok, Err, refl, sym, ap, subst, ◌∙◌}
use Rattle.std.proofs.lemmas.List.Elements.{All-get_or}
use Rattle.wf_model.specs.Task.{Task, IsTask}
use Rattle.wf_model.specs.Lists.{IsBelowOrSame}
use Rattle.wf_model.specs.Box.{LiesIn, root}
use Rattle.wf_model.specs.Problem.{problem_of}
use Rattle.wf_model.specs.DecisionMap.{listed}
use Rattle.wf_model.specs.Refutation.{Line}
use Rattle.wf_model.specs.Closing.{canonical}
use Rattle.wf_model.specs.Laws.{IsBoxOf, IsClosedBranch, IsLeastIn}
use Rattle.wf_model.specs.Report.{none}
use Rattle.wf_model.proofs.Lemmas.{by_number, listed_solves, solution_decides, listed_by_number, canonical_none_refutes, split_closed, canonical_leads, canonical_answers, canonical_least, task_well_formed}
use Rattle.wf_sat_formula.specs.Branches.{branch_at, branches}
use Rattle.wf_base.specs.Lines.Lines.{line_of}
use Rattle.wf_base.specs.declared.lines.line.Line as code
use Rattle.wf_pool.specs.Branches.{AreLinesAt, IsMapAt, branch_count}
use Rattle.wf_base.specs.declared.lines.form.Form.{Form}
use Rattle.wf_base.specs.Streams.Seen.{Reading, Writing}
use Rattle.wf_base.specs.Streams.Texts.{Wrote}
use Rattle.wf_run.specs.Given.{GaveTask}
use Rattle.wf_run.specs.Run.{Hands, IsTaskOf, Next, Reads}
use Rattle.wf_run_solve.specs.Texts.{lines_kept, body_of_map}
use Rattle.wf_run.specs.declared.fault.RunFault.{RunFault}
use Rattle.wf_run_solve.specs.declared.outcome.Outcome.{Outcome}
use Rattle.wf_run_solve.specs.declared.outcome.Outcome.TheVariants.{Map, Nothing}
use Rattle.wf_run.proofs.Lemmas.{task_read}
use Rattle.wf_run_solve.proofs.Lemmas.{kept_shown, none_shown}
use Rattle.wf_run_branches.specs.Branches.{AnswersBranch, AsksBranch, HasBranch}
use Rattle.wf_run_branches.specs.Laws.{BranchAnswersAreTrue}
use Rattle.wf_run_branches.specs.Solving.{IsLeastInBranch, IsSolvedIn, LeadsToMapIn, part_text}

-- a branch is a box of the problem
pub branch_is_box : (t : Task) (r i : ℕ) → IsTask t → HasBranch t r i → IsBoxOf (problem_of t r) (branch_at t r i)
branch_is_box t r i task has =
    let p = problem_of t r in
    (All-get_or (IsClosedBranch p (root p)) (branches t r) i [] has (split_closed p (task_well_formed t r task))).is_box

-- the least solution in a branch is the least decision map there
pub least_there : (t : Task) (r i : ℕ) (values : List ℕ) → IsLeastIn (problem_of t r) (branch_at t r i) values → IsLeastInBranch t r i (by_number t r values)
least_there t r i values is =
    let same : values ≡ listed t r (by_number t r values) = sym (listed_by_number t r values is.solves.long) in
    record {
      decides = solution_decides t r values is.solves;
      lies = subst (λ m. LiesIn m (branch_at t r i)) same is.lies;
      least = λ other decides lies. subst (λ m. IsBelowOrSame m (listed t r other)) same (is.least (listed t r other) (listed_solves t r other decides) lies);
    }

pub map_part : (t : Task) (r i : ℕ) (form : Form) (values : List ℕ) (ls : List code.Line) (text : List ℕ) → IsTask t → IsMapAt (problem_of t r) (lines_kept form) i values ls
    → text ≡ part_text t r i (body_of_map form values (map line_of ls)) → IsSolvedIn form t r i Map text
unfolding IsMapAt branch_count
map_part t r i form values ls text task (there, found, kept) is =
    let p = problem_of t r in
    let box = branch_at t r i in
    let all : List Line = (canonical p box).lines in
    let is_box = branch_is_box t r i task there in
    let least = canonical_least p box values (task_well_formed t r task) is_box found in
    let same : values ≡ listed t r (by_number t r values) = sym (listed_by_number t r values least.solves.long) in
    let leads : LeadsToMapIn t r i values all = record { canonical_lines = refl; leads = canonical_leads p box values is_box.ascending found } in (
      by_number t r values,
      all,
      least_there t r i values least,
      subst (λ vs. LeadsToMapIn t r i vs all) same leads,
      is ∙ ap (part_text t r i) (kept_shown form values (map line_of ls) all kept) ∙ ap (λ vs. part_text t r i (body_of_map form vs all)) same,
    )

pub none_part : (t : Task) (r i : ℕ) (form : Form) (ls : List code.Line) (text : List ℕ) → IsTask t → AreLinesAt (problem_of t r) (lines_kept form) i ls
    → text ≡ part_text t r i (none (map line_of ls)) → IsSolvedIn form t r i Nothing text
unfolding AreLinesAt branch_count
none_part t r i form ls text task (there, (nothing, kept)) is =
    let p = problem_of t r in
    let box = branch_at t r i in
    let all : List Line = (canonical p box).lines in (
      all,
      record {
        canonical_lines = refl;
        refutes = canonical_none_refutes p box nothing;
        no_map = λ m decides lies. (canonical_answers p (task_well_formed t r task) box (branch_is_box t r i task there)).none nothing (listed t r m) (listed_solves t r m decides) lies;
      },
      is ∙ ap (part_text t r i) (none_shown form (map line_of ls) all kept),
    )

-- ---- where it ends well

module _ (rounds branch : ℕ) (form : Form) (source source' : Reading) (sink sink' : Writing) where
  abbrev Right : Outcome → Type 0
  Right found =
      (t : Task) × (text : List ℕ) × GaveTask source source' t × HasBranch t rounds branch × IsSolvedIn form t rounds branch found text × Wrote sink sink' text

  of_task : (found : Outcome) (text : List ℕ) (task : Result Task RunFault) → Reads IsTaskOf source source' task
      → Next (λ t. AnswersBranch (IsSolvedIn form) t rounds branch) task (Ok (found, text)) → Wrote sink sink' text → Right found
  of_task found text (Ok t) (read, reads, judged) next wrote = (t, text, task_read source source' read t reads judged, next.1, next.2, wrote)
  of_task found text (Err e) reads next wrote = absurd (let bad : ⊥ = cc in bad)

  of_answer : (found : Outcome) (answer : Result (Outcome × List ℕ) RunFault)
      → AsksBranch (IsSolvedIn form) rounds branch source source' answer → Hands sink sink' answer (Ok found) → Right found
  of_answer found (Ok (x, text)) (task, reads, next) (same, wrote) =
      of_task found text task reads (subst (λ y. Next (λ t. AnswersBranch (IsSolvedIn form) t rounds branch) task (Ok (y, text))) (sym same) next) wrote
  of_answer found (Err e) asks hands = absurd (let bad : ⊥ = cc in bad)

pub branch_answers_true : BranchAnswersAreTrue
branch_answers_true rounds branch form source source' sink sink' found (answer, asks, hands) = of_answer rounds branch form source source' sink sink' found answer asks hands
