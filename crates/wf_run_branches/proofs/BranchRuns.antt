-- Runs that write a text about a branch in pieces.
use Rattle.std.proofs.Common.{◌≡◌, ◌∙◌, ℕ, List, length, Result, Ok, Err, IfOk, refl, sym, ap}
use Rattle.std.proofs.lemmas.List.{length-map}
use Rattle.wf_model.specs.Task.{Task, IsTask}
use Rattle.wf_model.specs.Box.{Box}
use Rattle.wf_model.specs.Outline.{Item, boxes_left_out, outline}
use Rattle.wf_model.specs.Split.{split}
use Rattle.wf_model.specs.Points.{points}
use Rattle.wf_model.specs.Problem.{Problem, problem_of}
use Rattle.wf_model.proofs.Lemmas.{task_well_formed}
use Rattle.wf_base.specs.Set.Sets.{box_of, values_in}
use Rattle.wf_sat_formula.specs.Branches.{box_text, branch_text, branches}
use Rattle.wf_search.specs.Cover.{IsClosedIn}
use Rattle.wf_base.specs.Streams.Seen.{Writing}
use Rattle.wf_base.specs.Streams.Texts.{WritesText}
use Rattle.wf_base.specs.declared.streams.sink.WriteFault.{WriteFault}
use Rattle.wf_run.specs.Run.{HasComplex, IsBeyondLimits, Ran}
use Rattle.wf_run.specs.declared.fault.RunFault.{RunFault}
use Rattle.wf_run.specs.declared.fault.RunFault.TheVariants.{NoBranch, OutOfMemory, Write}
use Rattle.wf_run.proofs.Lemmas.{IsRefusal}
use Rattle.wf_run_branches.specs.Branches.{AnswersBranch, HasBranch, IsBranch, IsBranchTextOf, IsCoverOf, IsNoBranch, IsRefusedBranch}
use Rattle.wf_run_branches.specs.declared.branch.BranchCandidates.{BranchCandidates}

module _ (t : Task) (r i : ℕ) where
  -- beyond the limits there is no branch either
  pub beyond_limits : (e : RunFault) → IsBeyondLimits t r e → IsRefusedBranch t r i e
  beyond_limits (NoBranch n) beyond = absurd beyond
  beyond_limits e beyond = beyond

  -- within them there may be too few
  pub beyond_branches : (e : RunFault) → HasComplex t r → IsNoBranch t r i e → IsRefusedBranch t r i e
  beyond_branches (NoBranch n) has none = record { within = has; count = none.0; beyond = none.1 }
  beyond_branches OutOfMemory has none = tt
  beyond_branches e has none = absurd none

module _ (text_of : Task → ℕ → ℕ → List ℕ) (t : Task) (r i : ℕ) (old new : Writing) where
  -- before anything was written
  pub refused : (e : RunFault) (result : Result (Unit {0}) RunFault) → IsRefusedBranch t r i e → IsRefusal e result → Ran (AnswersBranch (IsBranchTextOf text_of) t r i) old old result
  refused e (Ok done) beyond is = absurd (let ended = is.0 in let bad : ⊥ = cc in bad)
  refused e (Err found) beyond is = (Err e, beyond, (ap Err is.1, refl))

  -- after a beginning was
  pub broken : (text : List ℕ) (fault : WriteFault) (result : Result (Unit {0}) RunFault) → HasComplex t r → HasBranch t r i → text ≡ text_of t r i → WritesText old new text (Err fault) → IsRefusal Write result
      → Ran (AnswersBranch (IsBranchTextOf text_of) t r i) old new result
  broken text fault (Ok done) has there same begun is = absurd (let ended = is.0 in let bad : ⊥ = cc in bad)
  broken text fault (Err found) has there same begun is = (Ok (tt, text), (has, there, same), (is.1, begun))

  pub written : (text : List ℕ) → HasComplex t r → HasBranch t r i → text ≡ text_of t r i → WritesText old new text (Ok tt) → Ran (AnswersBranch (IsBranchTextOf text_of) t r i) old new (Ok tt)
  written text has there same wrote = (Ok (tt, text), (has, there, same), (refl, wrote))

-- ---- the branch that is found

-- the text about what is found is that of the branch
pub text_is : (t : Task) (r i : ℕ) (found : BranchCandidates) → IsBranch t r i found → box_text t r found.number found.count (box_of found.sets.items) ≡ branch_text t r i
text_is t r i found is =
    ap (λ n. box_text t r n found.count (box_of found.sets.items)) is.number
    ∙ ap (λ n. box_text t r i n (box_of found.sets.items)) is.count
    ∙ ap (λ box. box_text t r i (length (branches t r)) box) is.sets

-- it has a set for each point
pub is_long : (t : Task) (r : ℕ) (cover : List Item) (sets : List (List ℕ)) (box : Box) → IsTask t → IsCoverOf t r cover → IsClosedIn cover box → box_of sets ≡ box → length sets ≡ length (points t r)
is_long t r cover sets box task is closed same =
    sym (length-map sets values_in) ∙ ap length same ∙ (closed (problem_of t r) (task_well_formed t r task) is.outline_is).is_box.long

-- the cover of the task's problem
pub cover_is : {E : Type 0} (t : Task) (r : ℕ) (p : Problem) (result : Result (List Item) E) → p ≡ problem_of t r → IfOk result (λ cover. cover ≡ outline p) → IfOk result (λ cover. boxes_left_out cover ≡ split p)
    → IfOk result (IsCoverOf t r)
cover_is t r p (Ok cover) same outlined cut = record { outline_is = outlined ∙ ap outline same; branches_are = cut ∙ ap split same }
cover_is t r p (Err e) same outlined cut = tt
