-- What the checker answers: the first reason why nodes are no obstruction.
use Rattle.std.specs.Prelude.{◌≡◌, ℕ, zero, suc, ◌==◌, nat_lt, not, List, [], ◌∷◌, length, Option, None, Some, Result, Ok, Err, if◌then◌else◌}
use Rattle.wf_model.specs.Task.{Task, Tuple, first_block}
use Rattle.wf_tree_model.specs.Counting.Rules.{rule_at}
use Rattle.wf_tree_model.specs.Cases.{components, in_case}
use Rattle.wf_tree_model.specs.Covers.{covered}
use Rattle.wf_tree_model.specs.Splits.{by_stars, split}
use Rattle.wf_tree_model.specs.Trees.{Node, balance_node, by_sheets, case_node, cover_node, new_name, split_node}
use Rattle.wf_tree_refine.specs.Limits.{split_fault}
use Rattle.wf_tree_steps.specs.Balance.Judge.{balance_fault}
use Rattle.wf_tree_steps.specs.Cover.Faults.{cover_fault}
use Rattle.wf_tree_steps.specs.Cover.Limits.{sheets_fault}
use Rattle.wf_tree_check.specs.Limits.{limit_of, most_levels, most_nodes}
use Rattle.wf_tree_check.specs.declared.fault.Limit.TheVariants.{Depth, Nodes}
use Rattle.wf_tree_check.specs.declared.fault.TreeFault.{TreeFault}
use Rattle.wf_tree_check.specs.declared.fault.TreeFault.TheVariants.{FirstBlock, NoNode, Behind, NoSimplex, Symmetric, NoCover, NoBalance, TooLarge, OutOfMemory}

-- what stands behind a tree, with the place of its first node; or why there is no tree
abbrev pub Judged : Type 0
Judged = Result (ℕ × List Node) TreeFault

-- the same of each of these in turn
abbrev pub each_judged : (List Tuple → ℕ → List Node → Judged) → List (List Tuple) → ℕ → List Node → Judged
each_judged one [] k nodes = Ok (k, nodes)
each_judged one (part ∷ parts) k nodes = elim (one part k nodes) [
  | Ok behind ↦ each_judged one parts behind.0 behind.1
  | Err fault ↦ Err fault
]

-- A tree of the task at hand that begins with the first of these nodes, which has this place. So
-- many nodes with others below them may stand above one another from there on.
abbrev pub judged : ℕ → Task → ℕ → List Node → Judged
judged levels t k [] = Err (NoNode k)
judged levels t k (balance_node modulus sum xs ∷ nodes) =
    elim (balance_fault t modulus sum xs) [ None ↦ Ok (suc k, nodes) | Some fault ↦ Err (NoBalance k fault) ]
judged zero t k (case_node simplex ∷ nodes) = Err (TooLarge k Depth)
judged zero t k (split_node simplex ∷ nodes) = Err (TooLarge k Depth)
judged zero t k (cover_node simplex sheets corner moves ∷ nodes) = Err (TooLarge k Depth)
judged (suc levels) t k (case_node simplex ∷ nodes) =
    if nat_lt simplex (length t.delta)
    then each_judged (λ part. judged levels (in_case (rule_at t simplex) part t)) (components (rule_at t simplex)) (suc k) nodes
    else Err (NoSimplex k)
judged (suc levels) t k (split_node simplex ∷ nodes) =
    let s = by_stars (rule_at t simplex) (new_name t) in
    if t.symmetric then Err (Symmetric k)
    else if not (nat_lt simplex (length t.delta)) then Err (NoSimplex k)
    else elim (split_fault s t) [ Some fault ↦ Err (TooLarge k (limit_of fault)) | None ↦ judged levels (split s t) (suc k) nodes ]
judged (suc levels) t k (cover_node simplex sheets corner moves ∷ nodes) =
    let c = by_sheets t (rule_at t simplex) sheets corner moves in
    if t.symmetric then Err (Symmetric k)
    else if not (nat_lt simplex (length t.delta)) then Err (NoSimplex k)
    else elim (cover_fault c) [
      | Some fault ↦ Err (NoCover k fault)
      | None ↦ elim (sheets_fault c t) [ Some fault ↦ Err (TooLarge k (limit_of fault)) | None ↦ judged levels (covered c t) (suc k) nodes ]
    ]

-- nothing stands behind the tree
abbrev pub ended : Judged → Option TreeFault
ended (Ok (k, [])) = None
ended (Ok (k, node ∷ nodes)) = Some (Behind k)
ended (Err fault) = Some fault

-- the first reason why the nodes are no obstruction of the task
abbrev pub fault_of : Task → List Node → Option TreeFault
fault_of t nodes =
    if not (first_block t == 1) then Some FirstBlock
    else if nat_lt most_nodes (length nodes) then Some (TooLarge most_nodes Nodes)
    else ended (judged most_levels t 0 nodes)

-- the checker answers the first fault; if memory ran out, it says nothing of the nodes
abbrev pub Judges : Result (Unit {0}) TreeFault → Option TreeFault → Type 0
Judges (Ok u) fault = fault ≡ None
Judges (Err OutOfMemory) fault = Unit {0}
Judges (Err e) fault = fault ≡ Some e
