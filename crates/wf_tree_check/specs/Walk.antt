-- How the checker goes from node to node: what is left to judge below a node, and what comes of it.
use Rattle.std.specs.Prelude.{◌≡◌, ◌<◌, ℕ, suc, List, drop, length, map, vec_items, Result, Ok, Err}
use Rattle.wf_model.specs.Task.{Task, Tuple}
use Rattle.wf_tree_model.specs.Counting.Rules.{rule_at}
use Rattle.wf_tree_model.specs.Cases.{components, in_case}
use Rattle.wf_tree_model.specs.Trees.{Node, balance_node}
use Rattle.wf_tree_refine.specs.AtHand.{IsAtHand, at_hand}
use Rattle.wf_tree_refine.specs.declared.fault.RefineFault.{RefineFault}
use Rattle.wf_tree_refine.specs.declared.fault.RefineFault.TheVariants as refine
use Rattle.wf_tree_check.specs.Limits.{limit_of}
use Rattle.wf_tree_check.specs.Judge.{Judged, each_judged, judged}
use Rattle.wf_tree_check.specs.declared.enter.Entered.{Entered}
use Rattle.wf_tree_check.specs.declared.enter.Entered.TheVariants.{Leaf, One, Each}
use Rattle.wf_tree_check.specs.declared.fault.TreeFault.{TreeFault}
use Rattle.wf_tree_check.specs.declared.fault.TreeFault.TheVariants.{OutOfMemory, TooLarge}

-- how many levels a node takes
abbrev pub levels_of : Node → ℕ
levels_of (balance_node modulus sum xs) = 0
levels_of node = 1

-- why a step at a node is refused
abbrev pub fault_at : ℕ → RefineFault → TreeFault
fault_at k refine.OutOfMemory = OutOfMemory
fault_at k fault = TooLarge k (limit_of fault)

-- the same tree for each part of what the task allows on a simplex
abbrev pub cases_judged : ℕ → Task → ℕ → List (List Tuple) → ℕ → List Node → Judged
cases_judged levels t simplex = each_judged (λ part. judged levels (in_case (rule_at t simplex) part t))

-- What is left to judge, with so many levels, below the node of this place: nothing, a tree of
-- another task at hand, or one in each case. Together with the node it comes to this.
abbrev pub Leaves : Task → List (List Tuple) → ℕ → ℕ → List Node → Entered → Judged → Type 0
Leaves t rows levels k behind Leaf j = j ≡ Ok (suc k, behind)
Leaves t rows levels k behind (One refined) j =
    IsAtHand t (map vec_items refined.items) × (j ≡ judged levels (at_hand t (map vec_items refined.items)) (suc k) behind)
Leaves t rows levels k behind (Each cases) j =
    (cases.simplex < length rows)
    × (cases.count ≡ length (components (rule_at (at_hand t rows) cases.simplex)))
    × (j ≡ cases_judged levels (at_hand t rows) cases.simplex (components (rule_at (at_hand t rows) cases.simplex)) (suc k) behind)

-- the same, or the first fault; if memory ran out, nothing is said
abbrev pub IsEntered : Task → List (List Tuple) → ℕ → ℕ → List Node → Result Entered TreeFault → Judged → Type 0
IsEntered t rows levels k behind (Ok entered) j = Leaves t rows levels k behind entered j
IsEntered t rows levels k behind (Err OutOfMemory) j = Unit {0}
IsEntered t rows levels k behind (Err e) j = j ≡ Err e

-- trees below a node take a level
abbrev pub HasLevels : ℕ → Entered → Type 0
HasLevels levels Leaf = Unit {0}
HasLevels levels (One refined) = 0 < levels
HasLevels levels (Each cases) = 0 < levels

-- the place behind a tree among all nodes, or the first fault; if memory ran out, nothing is said
abbrev pub Reaches : List Node → Result ℕ TreeFault → Judged → Type 0
Reaches nodes (Ok next) j = j ≡ Ok (next, drop next nodes)
Reaches nodes (Err OutOfMemory) j = Unit {0}
Reaches nodes (Err e) j = j ≡ Err e
