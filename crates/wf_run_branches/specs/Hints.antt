-- A run over two sources: a task, and the clausal proof with hints by which a SAT solver shows that
-- the question of one branch has no model.
use Rattle.std.specs.Prelude.{ℕ, List, length, Result, Ok}
use Rattle.wf_model.specs.Task.{Task}
use Rattle.wf_sat_formula.specs.Branches.{branch_question, branches}
use Rattle.wf_base.specs.Streams.Seen.{Reading, Writing}
use Rattle.wf_base.specs.Streams.Texts.{Wrote}
use Rattle.wf_sat_check.specs.Lrat.Ledger.{ledger_of}
use Rattle.wf_run.specs.Given.{GaveTask}
use Rattle.wf_run.specs.Laws.{IsChecked}
use Rattle.wf_run.specs.Run.{Ran}
use Rattle.wf_run.specs.Sources.{AsksBoth, ReadsAbout}
use Rattle.wf_run.specs.declared.fault.RunFault.{RunFault}
use Rattle.wf_run_verify.specs.Hints.{ReadsAsHints}
use Rattle.wf_run_branches.specs.Branches.{HasBranch}
use Rattle.wf_run_branches.specs.Refuting.{HasNoMapIn, IsAcceptedBranch, ReadsIn, accepted_text}
use Rattle.wf_run_verify.specs.Proofs.{most_proof_bytes}

-- a source's bytes as a proof that no decision map lies in branch i: that the
-- question of the branch has no model
abbrev pub ReadsBranchHints : ℕ → Task → ℕ → Reading → Reading → Result (Unit {0} × List ℕ) RunFault → Type 0
ReadsBranchHints i t r old new result = ReadsAsHints (ledger_of (branch_question t r i)) (IsAcceptedBranch i t r) old new result

-- a source's bytes as such a proof about branch i, if that is there; else the source is left alone
abbrev pub ReadsHintsIn : ℕ → ReadsAbout
ReadsHintsIn i = ReadsIn ReadsBranchHints i

-- The proof of a source was checked about branch i of the question of another source's task after r
-- rounds, and that no decision map is accepted there was written. The task, its limits and the
-- branch are judged before the proof is read.
abbrev pub RefutesBranchByHints : ℕ → ℕ → Reading → Reading → Reading → Reading → Writing → Writing → Result (Unit {0}) RunFault → Type 0
RefutesBranchByHints r i task task' proof proof' sink sink' result =
    Ran (AsksBoth (ReadsHintsIn i) r task task' proof proof') sink sink' result

-- ---- laws

-- a proof with hints is accepted about a branch only if the source of the task gave its bytes, the
-- branch is there, no decision map lies in it, and the sink took the line that says so
abbrev pub HintedBranchRefutationsAreTrue : Type 0
HintedBranchRefutationsAreTrue =
    (rounds branch : ℕ) (task task' proof proof' : Reading) (sink sink' : Writing)
    → RefutesBranchByHints rounds branch task task' proof proof' sink sink' (Ok tt)
    → (t : Task) × GaveTask task task' t × HasBranch t rounds branch × HasNoMapIn t rounds branch
    × Wrote sink sink' (accepted_text branch (length (branches t rounds)) rounds)

abbrev pub HintedBranchProvingIsCounted : Type 0
HintedBranchProvingIsCounted =
    (rounds branch : ℕ) (task task' proof proof' : Reading) (sink sink' : Writing) (result : Result (Unit {0}) RunFault)
    → RefutesBranchByHints rounds branch task task' proof proof' sink sink' result
    → IsChecked most_proof_bytes task task' proof proof' sink sink' result
