-- A run that searches one branch of a task's question: what the branch has,
-- and the part of the answer that says so.
use Rattle.std.specs.Prelude.{◌≡◌, ◌++◌, ℕ, List, [], ◌∷◌, codes, length, Result}
use Rattle.wf_model.specs.Lists.{IsBelowOrSame}
use Rattle.wf_model.specs.Task.{Task}
use Rattle.wf_model.specs.View.{View}
use Rattle.wf_model.specs.Box.{LiesIn}
use Rattle.wf_model.specs.DecisionMap.{IsDecisionMap, listed}
use Rattle.wf_model.specs.Problem.{problem_of}
use Rattle.wf_model.specs.Closing.{canonical}
use Rattle.wf_model.specs.Refutation.{Line, Tree, lines, Refutes}
use Rattle.wf_model.specs.LeastTree.{IsLeastTree}
use Rattle.wf_model.specs.Report.{Body, line}
use Rattle.wf_sat_formula.specs.Branches.{branch_at, branches}
use Rattle.wf_base.specs.Streams.Seen.{Reading, Writing}
use Rattle.wf_base.specs.declared.lines.form.Form.{Form}
use Rattle.wf_run.specs.Run.{Ran}
use Rattle.wf_run_solve.specs.Texts.{body_of_map, body_of_none}
use Rattle.wf_run.specs.Texts.{text_of_report}
use Rattle.wf_run.specs.declared.fault.RunFault.{RunFault}
use Rattle.wf_run_solve.specs.declared.outcome.Outcome.{Outcome}
use Rattle.wf_run_solve.specs.declared.outcome.Outcome.TheVariants as outcome
use Rattle.wf_run_branches.specs.Branches.{AsksBranch}
use Rattle.wf_run_branches.specs.Refuting.{HasNoMapIn}

-- a decision map in branch i, and no other one there is below it
pub record IsLeastInBranch (t : Task) (r i : ℕ) (m : View → ℕ) : Type 0 where
  pub decides : IsDecisionMap t r m
  pub lies : LiesIn (listed t r m) (branch_at t r i)
  pub least : (other : View → ℕ) → IsDecisionMap t r other → LiesIn (listed t r other) (branch_at t r i)
      → IsBelowOrSame (listed t r m) (listed t r other)

-- The lines of the canonical search of branch i up to its map. They are those
-- of a tree that leads to the map.
pub record LeadsToMapIn (t : Task) (r i : ℕ) (m : List ℕ) (ls : List Line) : Type 0 where
  pub canonical_lines : ls ≡ (canonical (problem_of t r) (branch_at t r i)).lines
  pub leads : (tree : Tree) × (lines tree ≡ ls) × IsLeastTree (problem_of t r) m tree (branch_at t r i)

-- The lines of the canonical search of branch i. They are those of a tree that refutes it, and so
-- no decision map lies there.
pub record IsRefutationIn (t : Task) (r i : ℕ) (ls : List Line) : Type 0 where
  pub canonical_lines : ls ≡ (canonical (problem_of t r) (branch_at t r i)).lines
  pub refutes : (tree : Tree) × (lines tree ≡ ls) × Refutes (problem_of t r) tree (branch_at t r i)
  pub no_map : HasNoMapIn t r i

-- which branch it is about, and how many there are
abbrev pub part_head : ℕ → ℕ → List ℕ
part_head i n = line (codes "wfcheck part 1") [] ++ (line (codes "branch") (i ∷ []) ++ line (codes "branches") (n ∷ []))

-- the part with this answer about branch i: its head, and then a report whose
-- answer is about that branch alone
abbrev pub part_text : Task → ℕ → ℕ → Body → List ℕ
part_text t r i body = part_head i (length (branches t r)) ++ text_of_report t r body

-- what a search of branch i answers and writes: the least decision map there, or none by a
-- refutation of the branch
abbrev pub IsSolvedIn : Form → Task → ℕ → ℕ → Outcome → List ℕ → Type 0
IsSolvedIn form t r i outcome.Map text =
    (m : View → ℕ) × (ls : List Line) × IsLeastInBranch t r i m × LeadsToMapIn t r i (listed t r m) ls
    × (text ≡ part_text t r i (body_of_map form (listed t r m) ls))
IsSolvedIn form t r i outcome.Nothing text =
    (ls : List Line) × IsRefutationIn t r i ls × (text ≡ part_text t r i (body_of_none form ls))

-- branch i of the question of the source's task after r rounds was searched
abbrev pub SolvesBranch : ℕ → ℕ → Form → Reading → Reading → Writing → Writing → Result Outcome RunFault → Type 0
SolvesBranch r i form source source' sink sink' result = Ran (AsksBranch (IsSolvedIn form) r i source source') sink sink' result
