-- What is answered about a problem, and the account of the work.
use Rattle.std.specs.Prelude.{◌≡◌, ℕ, ◌+◌, ◌<◌, ◌≤◌, List, map, length, Some, None}
use Rattle.wf_model.specs.Problem.{Problem}
use Rattle.wf_model.specs.Box.{root}
use Rattle.wf_model.specs.Closing.{canonical}
use Rattle.wf_model.specs.Split.{split}
use Rattle.wf_model.specs.Laws.{LiesAt}
use Rattle.wf_core.specs.declared.event.Account.{Account}
use Rattle.wf_base.specs.Lines.Lines.{line_of}
use Rattle.wf_pool.specs.declared.answer.Answer.{Answer}
use Rattle.wf_pool.specs.declared.answer.Answer.TheVariants as answer
use Rattle.wf_pool.specs.declared.answer.KeptLines.{KeptLines}
use Rattle.wf_pool.specs.declared.answer.BranchAnswer.{BranchAnswer}
use Rattle.wf_pool.specs.declared.answer.BranchAnswer.TheVariants as at
pub use Rattle.wf_pool.specs.Branches.{map_lines, refuting_lines}
use Rattle.wf_pool.specs.Branches.{IsMapAt, AreLinesAt, branch_of}

-- The answer of the canonical search of the root: its map, or none, and its
-- lines, as far as such lines are kept
abbrev pub IsAnswer : Problem → KeptLines → Answer → Type 0
IsAnswer p kept (answer.Map m ls) =
    ((canonical p (root p)).map ≡ Some m.items) × (map line_of ls.items ≡ map_lines kept (canonical p (root p)).lines)
IsAnswer p kept (answer.Nothing ls) =
    ((canonical p (root p)).map ≡ None) × (map line_of ls.items ≡ refuting_lines kept (canonical p (root p)).lines)

-- The least is the branch whose box holds the map, and whose canonical search ends with the map. At
-- least as many branches were searched as stand up to this branch, and all others were cut.
pub record HasAccountOfMap (p : Problem) (m : List ℕ) (a : Account) : Type 0 where
  pub branches : a.branches ≡ length (split p)
  pub holds : LiesAt m (split p) a.least
  pub least : (canonical p (branch_of p a.least)).map ≡ Some m
  pub enough : a.least + 1 ≤ a.searched
  pub all : a.searched + a.cut ≡ a.branches

-- every branch was searched
pub record HasAccountOfNone (p : Problem) (a : Account) : Type 0 where
  pub branches : a.branches ≡ length (split p)
  pub least : a.least ≡ a.branches
  pub searched : a.searched ≡ a.branches
  pub cut : a.cut ≡ 0

abbrev pub HasAccount : Problem → Answer → Account → Type 0
HasAccount p (answer.Map m ls) a = HasAccountOfMap p m.items a
HasAccount p (answer.Nothing ls) a = HasAccountOfNone p a

-- as many branches were searched as stand up to the first with a map, as in a search in order
abbrev pub IsInOrder : Answer → Account → Type 0
IsInOrder (answer.Map m ls) a = a.searched ≡ a.least + 1
IsInOrder (answer.Nothing ls) a = a.searched ≡ a.branches

-- what branch i has
abbrev pub IsAnswerAt : Problem → KeptLines → ℕ → Answer → Type 0
IsAnswerAt p kept i (answer.Map m ls) = IsMapAt p kept i m.items ls.items
IsAnswerAt p kept i (answer.Nothing ls) = AreLinesAt p kept i ls.items

-- branch i is there, and this is what it has; or there are so many branches, and no branch i
abbrev pub HasBranchAnswer : Problem → KeptLines → ℕ → BranchAnswer → Type 0
HasBranchAnswer p kept i (at.Answered answer n) = (n ≡ length (split p)) × (i < length (split p)) × IsAnswerAt p kept i answer
HasBranchAnswer p kept i (at.Missing n) = (n ≡ length (split p)) × (n ≤ i)

-- two answers have one map, or none, and one list of lines
abbrev pub IsSame : Answer → Answer → Type 0
IsSame (answer.Map m ls) (answer.Map n ks) = (m.items ≡ n.items) × (map line_of ls.items ≡ map line_of ks.items)
IsSame (answer.Map m ls) (answer.Nothing ks) = ⊥
IsSame (answer.Nothing ls) (answer.Map m ks) = ⊥
IsSame (answer.Nothing ls) (answer.Nothing ks) = map line_of ls.items ≡ map line_of ks.items

-- any two runs about a problem give the same answer
abbrev pub OneAnswer : Type 0
OneAnswer = (p : Problem) (kept : KeptLines) (one other : Answer) → IsAnswer p kept one → IsAnswer p kept other → IsSame one other
