-- What a search finds and writes, and the runs that write it.
use Rattle.std.specs.Prelude.{◌≡◌, ◌+◌, ℕ, List, [], Result, Ok, Err, IfOk}
use Rattle.wf_model.specs.Task.{Task}
use Rattle.wf_model.specs.View.{View}
use Rattle.wf_model.specs.DecisionMap.{HasNoDecisionMap, IsLeast, listed}
use Rattle.wf_model.specs.Problem.{problem_of}
use Rattle.wf_model.specs.Box.{root}
use Rattle.wf_model.specs.Closing.{canonical}
use Rattle.wf_model.specs.Refutation.{Line, Tree, lines, Refutes}
use Rattle.wf_model.specs.LeastTree.{IsLeastTree}
use Rattle.wf_model.specs.Report.{Body, a_map, none, least}
use Rattle.wf_core.specs.declared.Account.{Account}
use Rattle.wf_pool.specs.Answers.{HasAccountOfMap, HasAccountOfNone}
use Rattle.wf_pool.specs.declared.answer.KeptLines.{KeptLines}
use Rattle.wf_pool.specs.declared.answer.KeptLines.TheVariants as keep
use Rattle.wf_base.specs.Streams.Seen.{Reading, Writing}
use Rattle.wf_run.specs.Run.{Asks, Ran}
use Rattle.wf_run.specs.declared.fault.RunFault.{RunFault}
use Rattle.wf_run_solve.specs.declared.outcome.Outcome.{Outcome}
use Rattle.wf_run_solve.specs.declared.outcome.Outcome.TheVariants as outcome
use Rattle.wf_base.specs.declared.lines.form.Form.{Form}
use Rattle.wf_base.specs.declared.lines.form.Form.TheVariants as form
use Rattle.wf_run.specs.Texts.{text_of_report}

-- The lines of the canonical search of the root. They are those of a tree that refutes it, and so
-- no function on the views is a decision map.
pub record IsRefutation (t : Task) (r : ℕ) (ls : List Line) : Type 0 where
  pub canonical_lines : ls ≡ (canonical (problem_of t r) (root (problem_of t r))).lines
  pub refutes : (tree : Tree) × (lines tree ≡ ls) × Refutes (problem_of t r) tree (root (problem_of t r))
  pub no_map : HasNoDecisionMap t r

-- The lines of the canonical search of the root up to its map. They are those
-- of a tree that leads to the map.
pub record LeadsToMap (t : Task) (r : ℕ) (m : List ℕ) (ls : List Line) : Type 0 where
  pub canonical_lines : ls ≡ (canonical (problem_of t r) (root (problem_of t r))).lines
  pub leads : (tree : Tree) × (lines tree ≡ ls) × IsLeastTree (problem_of t r) m tree (root (problem_of t r))

-- the search keeps the lines that the form shows: in the verdict form none, and those that lead to
-- a map in the least form alone
abbrev pub lines_kept : Form → KeptLines
lines_kept form.Full = keep.Refuting
lines_kept form.Verdict = keep.Neither
lines_kept form.Least = keep.All

-- the body of a report of none: in the verdict form the lines are left out
abbrev pub body_of_none : Form → List Line → Body
body_of_none form.Full ls = none ls
body_of_none form.Verdict ls = none []
body_of_none form.Least ls = none ls

-- the body of a report of a map: in the least form the lines that lead to it follow
abbrev pub body_of_map : Form → List ℕ → List Line → Body
body_of_map form.Full m ls = a_map m
body_of_map form.Verdict m ls = a_map m
body_of_map form.Least m ls = least m ls

-- What a search of a task finds and writes: the least decision map over the points, or none by a
-- refutation.
abbrev pub IsFound : Form → Task → ℕ → Outcome → List ℕ → Type 0
IsFound form t r outcome.Map text =
    (m : View → ℕ) × (ls : List Line) × IsLeast t r m × LeadsToMap t r (listed t r m) ls
    × (text ≡ text_of_report t r (body_of_map form (listed t r m) ls))
IsFound form t r outcome.Nothing text =
    (ls : List Line) × IsRefutation t r ls × (text ≡ text_of_report t r (body_of_none form ls))

-- the account of a search that goes through the branches and finds this
abbrev pub IsAccountOf : Task → ℕ → Outcome → Account → Type 0
IsAccountOf t r outcome.Map a = (m : View → ℕ) × IsLeast t r m × HasAccountOfMap (problem_of t r) (listed t r m) a
IsAccountOf t r outcome.Nothing a = HasAccountOfNone (problem_of t r) a

-- what such a search answers and writes: what is found, and the account of the branches
abbrev pub IsSolved : Form → Task → ℕ → Outcome × Account → List ℕ → Type 0
IsSolved form t r (found, a) text = IsFound form t r found text × IsAccountOf t r found a

-- as many branches were searched as stand up to the first with a map, as in a search in order
abbrev pub IsInOrder : Outcome × Account → Type 0
IsInOrder (outcome.Map, a) = a.searched ≡ a.least + 1
IsInOrder (outcome.Nothing, a) = a.searched ≡ a.branches

-- the source's task was decided for r rounds
abbrev pub Finds : ℕ → Form → Reading → Reading → Writing → Writing → Result Outcome RunFault → Type 0
Finds r form source source' sink sink' result =
    Ran (Asks (IsFound form) r source source') sink sink' result

-- the source's task was decided for r rounds, and the account of the branches was given
abbrev pub Solves : ℕ → Form → Reading → Reading → Writing → Writing → Result (Outcome × Account) RunFault → Type 0
Solves r form source source' sink sink' result =
    Ran (Asks (IsSolved form) r source source') sink sink' result

-- what is found, without the account
abbrev pub outcome_of : Result (Outcome × Account) RunFault → Result Outcome RunFault
outcome_of (Ok found) = Ok found.0
outcome_of (Err e) = Err e

abbrev pub SearchesInOrder : Result (Outcome × Account) RunFault → Type 0
SearchesInOrder result = IfOk result IsInOrder
