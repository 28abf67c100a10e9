-- What runs over branches say, and what holds after each.
use Rattle.std.specs.Prelude.{◌≡◌, ◌≢◌, ◌≤◌, ℕ, List, length, Some, Result, Ok, Err}
use Rattle.wf_model.specs.Limits.{most_bytes}
use Rattle.wf_model.specs.Report.{Body}
use Rattle.wf_model.specs.Task.{Task, IsTask}
use Rattle.wf_model.specs.DecisionMap.{HasNoDecisionMap}
use Rattle.wf_sat_formula.specs.Branches.{branches}
use Rattle.wf_base.specs.Streams.Seen.{Reading, Writing}
use Rattle.wf_base.specs.Streams.Texts.{GaveAll, Wrote}
use Rattle.wf_run.specs.Given.{GaveTask}
use Rattle.wf_report_check.specs.Truth.{HoldsOf}
use Rattle.wf_run_verify.specs.Laws.{Accepts}
use Rattle.wf_run.specs.Laws.{IsChecked, IsCounted}
use Rattle.wf_run_verify.specs.Proofs.{most_proof_bytes}
use Rattle.wf_run.specs.Run.{HasComplex}
use Rattle.wf_run.specs.Texts.{text_of_report}
use Rattle.wf_run_verify.specs.Verify.{ChecksText, accepted_of, accepted_words}
use Rattle.wf_run_verify.specs.declared.outcome.Accepted.{Accepted}
use Rattle.wf_run.specs.declared.fault.RunFault.{RunFault}
use Rattle.wf_run_solve.specs.declared.outcome.Outcome.{Outcome}
use Rattle.wf_base.specs.declared.lines.form.Form.{Form}
use Rattle.wf_base.specs.declared.lines.form.Form.TheVariants as form
use Rattle.wf_run_branches.specs.Branches.{HasBranch, ListsBranch}
use Rattle.wf_run_branches.specs.Refuting.{HasNoMapIn, RefutesBranch, accepted_in, accepted_text}
use Rattle.wf_run_branches.specs.Solving.{IsSolvedIn, SolvesBranch, part_text}
use Rattle.wf_run_branches.specs.Verifying.{HoldsIn, VerifiesBranch}
use Rattle.wf_run_branches.specs.Joining.{Joins, JoinsText, most_parts_bytes}
use Rattle.wf_run_branches.specs.Searched.{AreTooMuch, HasPartsOf, IsWholeText}

-- branch i is searched only if the source gave the bytes of a task, the branch is there, and the
-- sink took what its search answers: the part of the least decision map there, or that none lies
-- there
abbrev pub BranchAnswersAreTrue : Type 0
BranchAnswersAreTrue =
    (rounds branch : ℕ) (form : Form) (source source' : Reading) (sink sink' : Writing) (found : Outcome)
    → SolvesBranch rounds branch form source source' sink sink' (Ok found)
    → (t : Task) × (text : List ℕ) × GaveTask source source' t × HasBranch t rounds branch
    × IsSolvedIn form t rounds branch found text × Wrote sink sink' text

-- no function on the views is a decision map, if none lies in any branch
abbrev pub BranchesCoverAllMaps : Type 0
BranchesCoverAllMaps = (t : Task) (r : ℕ) → IsTask t → ((i : ℕ) → HasBranch t r i → HasNoMapIn t r i) → HasNoDecisionMap t r

-- a proof is accepted about a branch only if the source of the task gave its bytes, the branch is
-- there, no decision map lies in it, and the sink took the line that says so
abbrev pub BranchRefutationsAreTrue : Type 0
BranchRefutationsAreTrue =
    (rounds branch : ℕ) (task task' proof proof' : Reading) (sink sink' : Writing)
    → RefutesBranch rounds branch task task' proof proof' sink sink' (Ok tt)
    → (t : Task) × GaveTask task task' t × HasBranch t rounds branch × HasNoMapIn t rounds branch
    × Wrote sink sink' (accepted_text branch (length (branches t rounds)) rounds)

abbrev pub BranchAskingIsCounted : Type 0
BranchAskingIsCounted =
    (text_of : Task → ℕ → ℕ → List ℕ) (rounds branch : ℕ) (source source' : Reading) (sink sink' : Writing) (result : Result (Unit {0}) RunFault)
    → ListsBranch text_of rounds branch source source' sink sink' result → IsCounted source source' sink sink' result

abbrev pub BranchSolvingIsCounted : Type 0
BranchSolvingIsCounted =
    (rounds branch : ℕ) (form : Form) (source source' : Reading) (sink sink' : Writing) (result : Result Outcome RunFault)
    → SolvesBranch rounds branch form source source' sink sink' result → IsCounted source source' sink sink' result

-- The sources gave the bytes of a task, and the text of the part with this answer about a branch of
-- its question, which is there; and what the part says of the branch is true.
pub record GaveTruePart (task task' part part' : Reading) (t : Task) (r i : ℕ) (body : Body) : Type 0 where
  pub task_given : GaveTask task task' t
  pub has_branch : HasBranch t r i
  pub part_given : GaveAll part part' (part_text t r i body)
  pub holds : HoldsIn t r i body

-- a part is accepted about a branch only if such a part was given, and the sink took the line that
-- says what is accepted of it
abbrev pub PartAcceptancesAreTrue : Type 0
PartAcceptancesAreTrue =
    (rounds branch : ℕ) (task task' part part' : Reading) (sink sink' : Writing)
    → VerifiesBranch rounds branch task task' part part' sink sink' (Ok tt)
    → (t : Task) × (body : Body) × GaveTruePart task task' part part' t rounds branch body
    × Wrote sink sink' (accepted_in (accepted_words body) branch (length (branches t rounds)) rounds)

abbrev pub PartCheckingIsCounted : Type 0
PartCheckingIsCounted =
    (rounds branch : ℕ) (task task' part part' : Reading) (sink sink' : Writing) (result : Result (Unit {0}) RunFault)
    → VerifiesBranch rounds branch task task' part part' sink sink' result
    → IsChecked most_bytes task task' part part' sink sink' result

abbrev pub BranchProvingIsCounted : Type 0
BranchProvingIsCounted =
    (rounds branch : ℕ) (task task' proof proof' : Reading) (sink sink' : Writing) (result : Result (Unit {0}) RunFault)
    → RefutesBranch rounds branch task task' proof proof' sink sink' result
    → IsChecked most_proof_bytes task task' proof proof' sink sink' result

-- parts are joined only if the source gave the bytes of a task, and the sink took the text of a
-- report that is true of the whole question: a map is a decision map, and the least one if lines
-- say so; if there is no map, no function on the views is one
abbrev pub JoinsAreTrue : Type 0
JoinsAreTrue =
    (rounds : ℕ) (task task' parts parts' : Reading) (sink sink' : Writing)
    → Joins rounds task task' parts parts' sink sink' (Ok tt)
    → (t : Task) × (body : Body) × GaveTask task task' t × HoldsOf t rounds body × Wrote sink sink' (text_of_report t rounds body)

-- of the report that was written a check that asks for these rounds says that it is accepted, where
-- its text has at most as many bytes as a text may have
abbrev pub JoinsAreAccepted : Type 0
JoinsAreAccepted =
    (rounds : ℕ) (task task' parts parts' : Reading) (sink sink' : Writing)
    → Joins rounds task task' parts parts' sink sink' (Ok tt)
    → (t : Task) × (body : Body) × (text : List ℕ) × GaveTask task task' t × (text ≡ text_of_report t rounds body) × Wrote sink sink' text
    × (length text ≤ most_bytes → (answer : Result (Accepted × List ℕ) RunFault)
    → ChecksText most_bytes (Some rounds) t text answer → Accepts (accepted_of body) answer)

abbrev pub JoiningIsCounted : Type 0
JoiningIsCounted =
    (rounds : ℕ) (task task' parts parts' : Reading) (sink sink' : Writing) (result : Result (Unit {0}) RunFault)
    → Joins rounds task task' parts parts' sink sink' result
    → IsChecked most_parts_bytes task task' parts parts' sink sink' result

-- What is joined of the parts that searches of the branches wrote, in the full or the least form,
-- is the text that a search of the whole question writes in that form, to the byte: the report of
-- the least decision map, or of none with the lines of the search.
abbrev pub PartsOfSearchesJoinToTheWhole : Type 0
PartsOfSearchesJoinToTheWhole =
    (t : Task) (r : ℕ) (asked : Form) (found : Outcome) (parts text : List ℕ)
    → asked ≢ form.Verdict → HasPartsOf asked t r found parts
    → JoinsText t r parts (Ok (tt, text)) → IsWholeText asked t r found text

-- parts that searches of the branches wrote in one of these forms are joined to the text that a
-- search of the whole question writes in that form, to the byte; the sources gave the bytes of a
-- task and of the parts, and the sink took that text
abbrev pub JoinsOfSearchesAreWhole : Type 0
JoinsOfSearchesAreWhole =
    (rounds : ℕ) (task task' parts parts' : Reading) (sink sink' : Writing)
    → Joins rounds task task' parts parts' sink sink' (Ok tt)
    → (t : Task) × (given : List ℕ) × (text : List ℕ) × GaveTask task task' t × GaveAll parts parts' given × Wrote sink sink' text
    × ((asked : Form) (found : Outcome) → asked ≢ form.Verdict → HasPartsOf asked t rounds found given → IsWholeText asked t rounds found text)

-- the parts that searches of the branches wrote in one of these forms are joined, unless there is
-- too much of them
abbrev pub PartsOfSearchesAreJoined : Type 0
PartsOfSearchesAreJoined =
    (t : Task) (r : ℕ) (asked : Form) (found : Outcome) (parts : List ℕ) (e : RunFault)
    → HasComplex t r → asked ≢ form.Verdict → HasPartsOf asked t r found parts
    → JoinsText t r parts (Err e) → AreTooMuch asked t r found e
