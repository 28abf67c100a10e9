-- An obstruction of a text, judged about a task: it is accepted, or its first fault is told by the
-- line that the fault is about.
use Rattle.std.specs.Prelude.{◌≡◌, ◌<◌, ◌==◌, ℕ, suc, nat_lt, not, List, length, Option, None, Some, Result, Ok, Err, if◌then◌else◌}
use Rattle.wf_model.specs.Limits.{most_bytes}
use Rattle.wf_model.specs.Task.{Task}
use Rattle.wf_model.specs.DecisionMap.{HasNoDecisionMap}
use Rattle.wf_tree_model.specs.Trees.{IsObstruction, Node, Tree, nodes_of}
use Rattle.wf_report.specs.declared.fault.CertFault.TheVariants as amiss
use Rattle.wf_tree_steps.specs.declared.balance.fault.BalanceFault.{BalanceFault}
use Rattle.wf_tree_steps.specs.declared.balance.fault.BalanceFault.TheVariants as balance
use Rattle.wf_tree_steps.specs.declared.cover.cover.CoverFault.{CoverFault}
use Rattle.wf_tree_steps.specs.declared.cover.cover.CoverFault.TheVariants as cover
use Rattle.wf_tree_text.specs.Text.{Obstruction, line_of, obstruction_of}
use Rattle.wf_tree_text.specs.Seen.{obstruction_seen}
use Rattle.wf_tree_text.specs.declared.obstruction.Obstruction as code
use Rattle.wf_tree_check.specs.Judge.{fault_of}
use Rattle.wf_tree_check.specs.declared.fault.Limit.{Limit}
use Rattle.wf_tree_check.specs.declared.fault.Limit.TheVariants as above
use Rattle.wf_tree_check.specs.declared.fault.TreeFault.{TreeFault}
use Rattle.wf_tree_check.specs.declared.fault.TreeFault.TheVariants as tree
use Rattle.wf_run.specs.declared.fault.RunFault.{RunFault}
use Rattle.wf_run.specs.declared.fault.RunFault.TheVariants as run
use Rattle.wf_run.specs.declared.obstruction.CheckerLimit.{CheckerLimit}
use Rattle.wf_run.specs.declared.obstruction.CheckerLimit.TheVariants as limit
use Rattle.wf_run.specs.declared.obstruction.ObstructionFault.{ObstructionFault}
use Rattle.wf_run.specs.declared.obstruction.ObstructionFault.TheVariants as fault_line

-- ---- reading

-- the obstruction of a text, or the number of its first bad line
abbrev pub IsObstructionOf : List ℕ → Result Obstruction RunFault → Type 0
IsObstructionOf text (Ok o) = obstruction_of text ≡ Ok o
IsObstructionOf text (Err (run.Cert (amiss.Syntax k))) = obstruction_of text ≡ Err k
IsObstructionOf text (Err run.TooLong) = most_bytes < length text
IsObstructionOf text (Err run.OutOfMemory) = Unit {0}
IsObstructionOf text (Err e) = ⊥

-- an obstruction of the code, and what clauses see of it
abbrev pub read_as_obstruction : Result code.Obstruction RunFault → Result Obstruction RunFault
read_as_obstruction (Ok o) = Ok (obstruction_seen o)
read_as_obstruction (Err e) = Err e

-- ---- the line of a fault

-- the node that a fault is about
abbrev pub node_of : TreeFault → ℕ
node_of tree.FirstBlock = 0
node_of (tree.NoNode k) = k
node_of (tree.Behind k) = k
node_of (tree.NoSimplex k) = k
node_of (tree.Symmetric k) = k
node_of (tree.NoCover k fault) = k
node_of (tree.NoBalance k fault) = k
node_of (tree.TooLarge k above_this) = k
node_of tree.OutOfMemory = 0

-- the number of the multiplier at a place; no text has as many multipliers as bytes
abbrev pub entry_at : ℕ → ℕ
entry_at place = if nat_lt place most_bytes then suc place else 0

-- the number of the multiplier that a fault is about, from 1 on, or 0
abbrev pub entry_of_balance : BalanceFault → ℕ
entry_of_balance (balance.NoSimplex place) = entry_at place
entry_of_balance (balance.NoPlace place) = entry_at place
entry_of_balance (balance.OthersLength place) = entry_at place
entry_of_balance (balance.WeightRange place) = entry_at place
entry_of_balance fault = 0

abbrev pub entry_of : TreeFault → ℕ
entry_of (tree.NoBalance k fault) = entry_of_balance fault
entry_of fault = 0

-- ---- what is told of a fault

abbrev pub limit_told : Limit → CheckerLimit
limit_told above.Depth = limit.Levels
limit_told above.Nodes = limit.Nodes
limit_told above.Names = limit.Names
limit_told above.Tuples = limit.Tuples

abbrev pub cover_told : ℕ → CoverFault → ObstructionFault
cover_told line cover.OneParticipant = fault_line.OneParticipant line
cover_told line cover.NoCorner = fault_line.NoPlace line
cover_told line cover.NoSheet = fault_line.NoSheet line
cover_told line (cover.NotFlat tuple) = fault_line.NotFlat line tuple

abbrev pub balance_told : ℕ → BalanceFault → RunFault
balance_told line balance.SumRange = run.Obstruction (fault_line.SumRange line)
balance_told line (balance.NoSimplex place) = run.Obstruction (fault_line.NoSimplex line)
balance_told line (balance.NoPlace place) = run.Obstruction (fault_line.NoPlace line)
balance_told line (balance.OthersLength place) = run.Obstruction (fault_line.OthersLength line)
balance_told line (balance.WeightRange place) = run.Obstruction (fault_line.WeightRange line)
balance_told line balance.OtherSum = run.Obstruction (fault_line.OtherSum line)
balance_told line (balance.NotBalanced simplex tuple) = run.Obstruction (fault_line.NotBalanced line simplex tuple)
balance_told line balance.OutOfMemory = run.OutOfMemory

abbrev pub told_at : ℕ → TreeFault → RunFault
told_at line tree.FirstBlock = run.Obstruction fault_line.FirstBlock
told_at line (tree.NoNode k) = run.Obstruction (fault_line.NoTree line)
told_at line (tree.Behind k) = run.Obstruction (fault_line.Behind line)
told_at line (tree.NoSimplex k) = run.Obstruction (fault_line.NoSimplex line)
told_at line (tree.Symmetric k) = run.Obstruction (fault_line.Symmetric line)
told_at line (tree.NoCover k fault) = run.Obstruction (cover_told line fault)
told_at line (tree.NoBalance k fault) = balance_told line fault
told_at line (tree.TooLarge k above_this) = run.Obstruction (fault_line.TooLarge line (limit_told above_this))
told_at line tree.OutOfMemory = run.OutOfMemory

-- a fault of these nodes, told by the line of their text that it is about
abbrev pub told : List Node → TreeFault → RunFault
told nodes fault = told_at (line_of nodes (node_of fault) (entry_of fault)) fault

-- ---- judging

-- the line of the first number in front that is not the task's
abbrev pub front_fault : Task → Obstruction → Option ℕ
front_fault t o =
    if not (o.processes == t.processes) then Some 2
    else if not (o.simplices == length t.delta) then Some 3
    else None

-- An obstruction that is accepted: it is about the task, and its nodes have no fault and are those
-- of a tree. So no function on the views is a decision map, after any number of rounds.
pub record IsSound (t : Task) (o : Obstruction) : Type 0 where
  pub front : front_fault t o ≡ None
  pub faultless : fault_of t o.nodes ≡ None
  pub tree : Tree
  pub nodes : nodes_of tree ≡ o.nodes
  pub obstruction : IsObstruction t tree
  pub no_map : (r : ℕ) → HasNoDecisionMap t r

-- the first fault of the nodes, if the front is the task's
abbrev pub HasFault : Task → Obstruction → RunFault → Type 0
HasFault t o e = (front_fault t o ≡ None) × ((fault : TreeFault) × (fault_of t o.nodes ≡ Some fault) × (e ≡ told o.nodes fault))

-- why an obstruction is refused: its first fault, or memory ran out
abbrev pub IsRefusalOf : Task → Obstruction → RunFault → Type 0
IsRefusalOf t o (run.Cert (amiss.Header k)) = front_fault t o ≡ Some k
IsRefusalOf t o (run.Obstruction fault) = HasFault t o (run.Obstruction fault)
IsRefusalOf t o run.OutOfMemory = Unit {0}
IsRefusalOf t o e = ⊥

-- it is accepted, or it is refused
abbrev pub IsSoundOrRefused : Task → Obstruction → Result (Unit {0}) RunFault → Type 0
IsSoundOrRefused t o (Ok u) = IsSound t o
IsSoundOrRefused t o (Err e) = IsRefusalOf t o e
