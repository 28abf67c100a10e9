-- A run over two sources: a task, and the clausal proof by which a SAT solver shows that the
-- question of one branch has no model.
use Rattle.std.specs.Prelude.{◌≡◌, ℕ, List, ◌++◌, length, codes, decimal, Result, Ok, Err, Some}
use Rattle.wf_model.specs.Task.{Task}
use Rattle.wf_model.specs.View.{View}
use Rattle.wf_model.specs.Box.{LiesIn}
use Rattle.wf_model.specs.DecisionMap.{IsDecisionMap, listed}
use Rattle.wf_sat_formula.specs.Branches.{branch_at, branch_question, branches}
use Rattle.wf_base.specs.Streams.Seen.{Reading, Writing}
use Rattle.wf_run.specs.Run.{Ran}
use Rattle.wf_run.specs.Sources.{AsksBoth, NextReads, ReadsAbout}
use Rattle.wf_run_verify.specs.Verify.{rounds_end}
use Rattle.wf_run_verify.specs.Proofs.{ReadsProofOf}
use Rattle.wf_run.specs.declared.fault.RunFault.{RunFault}
use Rattle.wf_run_branches.specs.Branches.{HasBranch, IsNoBranch}

-- no decision map lies in branch i of the task's question after r rounds
abbrev pub HasNoMapIn : Task → ℕ → ℕ → Type 0
HasNoMapIn t r i = (m : View → ℕ) → IsDecisionMap t r m → LiesIn (listed t r m) (branch_at t r i) → ⊥

-- the line that says by these words what is accepted in branch i of n, for these rounds
abbrev pub accepted_in : List ℕ → ℕ → ℕ → ℕ → List ℕ
accepted_in words i n r = words ++ (codes " in branch " ++ (decimal i ++ (codes " of " ++ (decimal n ++ rounds_end (Some r)))))

-- the line that says that no decision map is accepted there
abbrev pub accepted_text : ℕ → ℕ → ℕ → List ℕ
accepted_text i n r = accepted_in (codes "accepted none") i n r

-- there is none in branch i, and the text is the line that says so
abbrev pub IsAcceptedBranch : ℕ → Task → ℕ → Unit {0} × List ℕ → Type 0
IsAcceptedBranch i t r answer = HasNoMapIn t r i × (answer.1 ≡ accepted_text i (length (branches t r)) r)

-- a source's bytes as a proof that no decision map lies in branch i: that the
-- question of the branch has no model
abbrev pub ReadsBranchProof : ℕ → Task → ℕ → Reading → Reading → Result (Unit {0} × List ℕ) RunFault → Type 0
ReadsBranchProof i t r old new result = ReadsProofOf (branch_question t r i) (IsAcceptedBranch i t r) old new result

-- there is a branch i, or why not
abbrev pub FindsBranch : Task → ℕ → ℕ → Result (Unit {0}) RunFault → Type 0
FindsBranch t r i (Ok found) = HasBranch t r i
FindsBranch t r i (Err e) = IsNoBranch t r i e

-- a source's bytes about branch i, if that is there; else the source is left alone
abbrev pub ReadsIn : (ℕ → ReadsAbout) → ℕ → ReadsAbout
ReadsIn reads i t r old new result =
    (found : Result (Unit {0}) RunFault) × FindsBranch t r i found × NextReads (λ there. reads i t r) old new found result

-- a source's bytes as a proof about branch i, if that is there; else the source is left alone
abbrev pub ReadsProofIn : ℕ → ReadsAbout
ReadsProofIn i = ReadsIn ReadsBranchProof i

-- The proof of a source was checked about branch i of the question of another source's task after r
-- rounds, and that no decision map is accepted there was written. The task, its limits and the
-- branch are judged before the proof is read.
abbrev pub RefutesBranch : ℕ → ℕ → Reading → Reading → Reading → Reading → Writing → Writing → Result (Unit {0}) RunFault → Type 0
RefutesBranch r i task task' proof proof' sink sink' result = Ran (AsksBoth (ReadsProofIn i) r task task' proof proof') sink sink' result
