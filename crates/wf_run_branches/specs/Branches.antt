-- One branch of a task's question, and runs that write a text about it.
use Rattle.std.specs.Prelude.{◌≡◌, ◌<◌, ◌≤◌, ℕ, List, length, Result, Ok, Err}
use Rattle.wf_model.specs.Task.{Task, IsTask}
use Rattle.wf_model.specs.Problem.{problem_of}
use Rattle.wf_model.specs.Outline.{Item, boxes_left_out, outline}
use Rattle.wf_model.specs.Points.{points}
use Rattle.wf_base.specs.Set.Sets.{box_of}
use Rattle.wf_sat_formula.specs.Branches.{branch_at, branches}
use Rattle.wf_base.specs.Streams.Seen.{Reading, Writing}
use Rattle.wf_run.specs.Run.{HasComplex, IsBeyondLimits, IsTaskOf, Next, Ran, Reads}
use Rattle.wf_run.specs.declared.fault.RunFault.{RunFault}
use Rattle.wf_run.specs.declared.fault.RunFault.TheVariants.{NoBranch, OutOfMemory}
use Rattle.wf_run_branches.specs.declared.branch.BranchCandidates.{BranchCandidates}

-- what is written while the root is cut, with the branches of the task's
-- question in the place of their lines
pub record IsCoverOf (t : Task) (r : ℕ) (cover : List Item) : Type 0 where
  pub outline_is : cover ≡ outline (problem_of t r)
  pub branches_are : boxes_left_out cover ≡ branches t r

-- there is a branch i
abbrev pub HasBranch : Task → ℕ → ℕ → Type 0
HasBranch t r i = i < length (branches t r)

-- it is branch i of the task's question, as the code keeps it
pub record IsBranch (t : Task) (r i : ℕ) (branch : BranchCandidates) : Type 0 where
  pub number : branch.number ≡ i
  pub there : HasBranch t r i
  pub count : branch.count ≡ length (branches t r)
  pub sets : box_of branch.sets.items ≡ branch_at t r i
  pub long : length branch.sets.items ≡ length (points t r)

-- it is branch i of each task's question whose cover this is
abbrev pub IsBranchIn : List Item → ℕ → BranchCandidates → Type 0
IsBranchIn cover i branch = (t : Task) (r : ℕ) → IsTask t → IsCoverOf t r cover → IsBranch t r i branch

-- there are so many branches, and no branch i
pub record IsBeyondBranches (t : Task) (r i n : ℕ) : Type 0 where
  pub within : HasComplex t r
  pub count : n ≡ length (branches t r)
  pub beyond : n ≤ i

-- why there is no branch i on a complex that is there
abbrev pub IsNoBranch : Task → ℕ → ℕ → RunFault → Type 0
IsNoBranch t r i (NoBranch n) = (n ≡ length (branches t r)) × (n ≤ i)
IsNoBranch t r i OutOfMemory = Unit {0}
IsNoBranch t r i e = ⊥

-- why nothing is answered about branch i
abbrev pub IsRefusedBranch : Task → ℕ → ℕ → RunFault → Type 0
IsRefusedBranch t r i (NoBranch n) = IsBeyondBranches t r i n
IsRefusedBranch t r i e = IsBeyondLimits t r e

-- what is answered about a branch of a task after some rounds, and with which text
abbrev pub BranchAnswers : Type 0 → Type 1
BranchAnswers X = Task → ℕ → ℕ → X → List ℕ → Type 0

-- the answer about branch i of a task after r rounds with its text, where
-- is_text says which text an answer has
abbrev pub AnswersBranch : {X : Type 0} → BranchAnswers X → Task → ℕ → ℕ → Result (X × List ℕ) RunFault → Type 0
AnswersBranch is_text t r i (Ok answer) = HasComplex t r × HasBranch t r i × is_text t r i answer.0 answer.1
AnswersBranch is_text t r i (Err e) = IsRefusedBranch t r i e

-- the answer about branch i of the source's task after r rounds
abbrev pub AsksBranch : {X : Type 0} → BranchAnswers X → ℕ → ℕ → Reading → Reading → Result (X × List ℕ) RunFault → Type 0
AsksBranch is_text r i old new result =
    (task : Result Task RunFault) × Reads IsTaskOf old new task × Next (λ t. AnswersBranch is_text t r i) task result

-- the text that a branch has
abbrev pub IsBranchTextOf : (Task → ℕ → ℕ → List ℕ) → BranchAnswers (Unit {0})
IsBranchTextOf text_of t r i answer text = text ≡ text_of t r i

-- it was written
abbrev pub ListsBranch : (Task → ℕ → ℕ → List ℕ) → ℕ → ℕ → Reading → Reading → Writing → Writing → Result (Unit {0}) RunFault → Type 0
ListsBranch text_of r i source source' sink sink' result =
    Ran (AsksBranch (IsBranchTextOf text_of) r i source source') sink sink' result
