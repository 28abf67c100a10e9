-- What a proof about a branch shows, and what those of all branches show together.
use Rattle.std.proofs.Common.{◌≡◌, ◌∙◌, ℕ, List, length, map, Result, Ok, Err, Vec, refl, ap, subst}
use Rattle.wf_model.specs.Task.{Task, IsTask}
use Rattle.wf_model.specs.Box.{root}
use Rattle.wf_model.specs.DecisionMap.{listed}
use Rattle.wf_model.specs.Problem.{problem_of}
use Rattle.wf_model.proofs.Lemmas.{listed_solves, in_exactly_one, split_covers, solution_in_root, task_well_formed}
use Rattle.wf_sat_text.specs.Clauses.Formula.{Formula, IsUnsatisfiable}
use Rattle.wf_base.specs.Set.Sets.{values_in}
use Rattle.wf_sat_formula.specs.Branches.{branch_at, branch_question, branches, formula_in}
use Rattle.wf_sat_formula.specs.Encoding.{stating}
use Rattle.wf_sat_formula.proofs.Lemmas.{is_model_in}
use Rattle.wf_base.specs.Streams.Seen.{Reading}
use Rattle.wf_base.specs.Streams.Texts.{Wrote}
use Rattle.wf_run.specs.Sources.{NextReads, ReadsAbout}
use Rattle.wf_run.specs.declared.fault.RunFault.{RunFault}
use Rattle.wf_run.proofs.Lemmas.{done, IsRefusal}
use Rattle.wf_run.specs.Run.{answered}
use Rattle.wf_run_branches.specs.Branches.{HasBranch, IsBranch, IsNoBranch}
use Rattle.wf_run_branches.specs.declared.branch.BranchCandidates.{BranchCandidates}
use Rattle.wf_run_branches.specs.Refuting.{FindsBranch, HasNoMapIn, ReadsBranchProof, ReadsIn, ReadsProofIn, accepted_text}
use Rattle.wf_run_branches.specs.Laws.{BranchesCoverAllMaps, BranchRefutationsAreTrue}

-- where a branch's question has no model, no decision map lies there
pub none_in : (t : Task) (r i : ℕ) → IsTask t → IsUnsatisfiable (branch_question t r i) → HasNoMapIn t r i
none_in t r i is unsatisfiable m decides lies =
    let solves = listed_solves t r m decides in
    unsatisfiable (stating (problem_of t r).values (listed t r m))
    (is_model_in (problem_of t r) (branch_at t r i) (listed t r m) (task_well_formed t r is)
    (record { solves = solves; listed = solution_in_root t r (listed t r m) is solves; lies = lies }))

-- what is posed of the sets that the code keeps of a branch is posed of the branch's question
pub posed_in : {Checker : Type 0} (is_posed : Formula → Checker → Type 0) (t : Task) (r i : ℕ) (branch : BranchCandidates) (sets : List (List ℕ)) (checker : Checker) → IsBranch t r i branch
    → sets ≡ branch.sets.items → is_posed (formula_in (problem_of t r) (map values_in sets)) checker → is_posed (branch_question t r i) checker
posed_in is_posed t r i branch sets checker is same posed = subst (λ box. is_posed (formula_in (problem_of t r) box) checker) (ap (map values_in) same ∙ is.sets) posed

-- the line that is told of a branch by its index
pub told_of : (t : Task) (r i : ℕ) (branch : BranchCandidates) (number count rounds : ℕ) (text : List ℕ) → IsBranch t r i branch → number ≡ branch.number → count ≡ branch.count → rounds ≡ r
    → text ≡ accepted_text number count rounds → text ≡ accepted_text i (length (branches t r)) r
told_of t r i branch number count rounds text is same-number same-count same-rounds told =
    told ∙ ap (λ n. accepted_text n count rounds) (same-number ∙ is.number) ∙ ap (λ n. accepted_text i n rounds) (same-count ∙ is.count) ∙ ap (λ k. accepted_text i (length (branches t r)) k) same-rounds

pub branches_cover : BranchesCoverAllMaps
branches_cover t r is none m decides =
    let solves = listed_solves t r m decides in
    let at = in_exactly_one (problem_of t r) (root (problem_of t r)) (branches t r) (split_covers (problem_of t r) (task_well_formed t r is)) (listed t r m) solves
    (solution_in_root t r (listed t r m) is solves) in
    none at.0 at.1.0 m decides at.1.1

-- where the proof was read there is the branch
was_found : (i : ℕ) (t : Task) (r : ℕ) (old new : Reading) (text : List ℕ) (found : Result (Unit {0}) RunFault) → FindsBranch t r i found
    → NextReads (λ there. ReadsBranchProof i t r) old new found (Ok (tt, text)) → HasBranch t r i × HasNoMapIn t r i × (text ≡ accepted_text i (length (branches t r)) r)
was_found i t r old new text (Ok there) has (posed, whole, (given, gave, is)) = (has, is.0.0, is.0.1)
was_found i t r old new text (Err e) has next = absurd (let bad : ⊥ = cc in bad)

pub branch_refutations_true : BranchRefutationsAreTrue
branch_refutations_true r i task task' proof proof' sink sink' ran =
    let end = done (ReadsProofIn i) r task task' proof proof' sink sink' ran in
    let (has, none, same) = was_found i end.t r proof proof' end.text end.read.0 end.read.1 end.read.2 in
    (end.t, end.given, has, none, subst (λ text. Wrote sink sink' text) same end.wrote)

-- ---- whether there is such a branch

module _ (reads : ℕ → ReadsAbout) (i : ℕ) (t : Task) (r : ℕ) (old : Reading) where
  pub missing_in : {A : Type 0} (e : RunFault) (result : Result (Unit {0} × Vec ℕ A) RunFault) → IsNoBranch t r i e → IsRefusal e result
      → ReadsIn reads i t r old old (answered result)
  missing_in e (Ok x) none is = absurd (let ended = is.0 in let bad : ⊥ = cc in bad)
  missing_in e (Err found) none is = (Err e, none, (ap Err is.1, refl))

  pub found_in : (n : ℕ) (new : Reading) (result : Result (Unit {0} × List ℕ) RunFault) → n ≡ i → HasBranch t r i → reads n t r old new result → ReadsIn reads i t r old new result
  found_in n new result same has read = (Ok tt, has, subst (λ k. reads k t r old new result) same read)
