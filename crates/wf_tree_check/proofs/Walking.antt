-- From node to node: what a node, a case and the end of the nodes come to.
use Rattle.std.proofs.Common.{◌≡◌, ℕ, zero, suc, ◌+◌, ◌-◌, ◌<◌, ◌≤◌, nat_lt, not, true, cond, List, [], ◌∷◌, drop, get_or, length, Option, None, Some, Result, Ok, Err, IfOk, OnOk, refl, sym, ap, ◌∙◌, subst, arith}
use Rattle.std.proofs.lemmas.Bool.{eq-eqb, le-ltb, ltb-true}
use Rattle.std.proofs.lemmas.List.{at_drop_more, drop_all, drop_more, get_or-map, length-map}
use Rattle.wf_model.specs.Task.{Task, Tuple, first_block}
use Rattle.wf_tree_model.specs.Counting.Rules.{rule_at}
use Rattle.wf_tree_model.specs.Cases.{in_case}
use Rattle.wf_tree_model.specs.Trees.{Node, balance_node, case_node, cover_node, split_node}
use Rattle.wf_tree_refine.specs.AtHand.{at_hand}
use Rattle.wf_tree_text.specs.Seen.{node_seen, nodes_seen}
use Rattle.wf_tree_text.specs.declared.obstruction.TreeNode as code_node
use Rattle.wf_tree_check.specs.Judge.{Judged, Judges, ended, fault_of, judged}
use Rattle.wf_tree_check.specs.Limits.{most_levels, most_nodes}
use Rattle.wf_tree_check.specs.Walk.{HasLevels, IsEntered, Reaches, cases_judged, levels_of}
use Rattle.wf_tree_check.specs.declared.enter.Entered.{Entered}
use Rattle.wf_tree_check.specs.declared.enter.Entered.TheVariants as entered
use Rattle.wf_tree_check.specs.declared.fault.Limit.TheVariants.{Depth, Nodes}
use Rattle.wf_tree_check.specs.declared.fault.TreeFault.{TreeFault}
use Rattle.wf_tree_check.specs.declared.fault.TreeFault.TheVariants.{Behind, FirstBlock, OutOfMemory, TooLarge}

-- ---- a node

pub node_there : (nodes : List code_node.TreeNode) (place : ℕ) (n : code_node.TreeNode) → true ≡ nat_lt place (length nodes) → n ≡ get_or nodes place n
    → drop place (nodes_seen nodes) ≡ node_seen n ∷ drop (place + 1) (nodes_seen nodes)
node_there nodes place n low here =
    let inside : place < length nodes = ltb-true place (length nodes) (sym low) in
    let long = length-map nodes node_seen in
    drop_more (nodes_seen nodes) place (node_seen n) (omega (arith, inside, long))
    ∙ ap (λ x. x ∷ drop (place + 1) (nodes_seen nodes)) (get_or-map node_seen nodes place n (node_seen n) inside ∙ ap node_seen (sym here))

-- a node that needs a level, where there is one
pub inner_entered : (t : Task) (rows : List (List Tuple)) (levels k : ℕ) (n : Node) (behind all : List Node) (r : Result Entered TreeFault) → 0 < levels → all ≡ n ∷ behind
    → IsEntered t rows (levels - 1) k behind r (judged (suc (levels - 1)) (at_hand t rows) k (n ∷ behind))
    → IsEntered t rows (levels - 1) k behind r (judged levels (at_hand t rows) k all)
inner_entered t rows levels k n behind all r some is h =
    let e : suc (levels - 1) ≡ levels = omega (arith, some) in
    subst (IsEntered t rows (levels - 1) k behind r) (ap (λ m. judged m (at_hand t rows) k (n ∷ behind)) e ∙ ap (judged levels (at_hand t rows) k) (sym is)) h

pub inner_levels : (levels : ℕ) (r : Result Entered TreeFault) → 0 < levels → IfOk r (HasLevels levels)
inner_levels levels (Ok entered.Leaf) some = tt
inner_levels levels (Ok (entered.One refined)) some = omega (arith, some)
inner_levels levels (Ok (entered.Each cases)) some = omega (arith, some)
inner_levels levels (Err e) some = tt

-- and where there is none
pub too_deep : (t : Task) (levels k : ℕ) (n : Node) (behind : List Node) → levels < levels_of n → judged levels t k (n ∷ behind) ≡ Err (TooLarge k Depth)
too_deep t zero k (case_node simplex) behind low = refl
too_deep t zero k (split_node simplex) behind low = refl
too_deep t zero k (cover_node simplex sheets corner moves) behind low = refl
too_deep t levels k (balance_node modulus sum xs) behind low = absurd (let bad : ⊥ = omega (arith, low) in bad)
too_deep t (suc levels) k (case_node simplex) behind low = absurd (let bad : ⊥ = omega (arith, low) in bad)
too_deep t (suc levels) k (split_node simplex) behind low = absurd (let bad : ⊥ = omega (arith, low) in bad)
too_deep t (suc levels) k (cover_node simplex sheets corner moves) behind low = absurd (let bad : ⊥ = omega (arith, low) in bad)

pub if_ok : {T E : Type 0} (r : Result T E) (P : Type 0) → P → OnOk r P
if_ok (Ok x) P h = h
if_ok (Err e) P h = tt

-- ---- the cases of a node

-- one judge after another
abbrev after : (ℕ → List Node → Judged) → Judged → Judged
after next j = elim j [ Ok behind ↦ next behind.0 behind.1 | Err fault ↦ Err fault ]

module _ (nodes : List Node) (levels simplex : ℕ) (t part found : Task) (parts : List (List Tuple)) (number place k : ℕ) (low : number < length parts) (same : part ≡ found) (case : found ≡ in_case (rule_at t simplex) (get_or parts number []) t)
    (so_far : cases_judged levels t simplex parts place (drop place nodes) ≡ cases_judged levels t simplex (drop number parts) k (drop k nodes)) where
  next_case : cases_judged levels t simplex parts place (drop place nodes) ≡ after (cases_judged levels t simplex (drop (number + 1) parts)) (judged levels part k (drop k nodes))
  next_case =
      so_far ∙ at_drop_more (λ ps. cases_judged levels t simplex ps k (drop k nodes)) parts number [] low
      ∙ ap (λ u. after (cases_judged levels t simplex (drop (number + 1) parts)) (judged levels u k (drop k nodes))) (sym case ∙ sym same)

  pub case_judged : (next : ℕ) → judged levels part k (drop k nodes) ≡ Ok (next, drop next nodes)
      → cases_judged levels t simplex parts place (drop place nodes) ≡ cases_judged levels t simplex (drop (number + 1) parts) next (drop next nodes)
  case_judged next is = next_case ∙ ap (after (cases_judged levels t simplex (drop (number + 1) parts))) is

  pub case_refused : (e : TreeFault) → Reaches nodes (Err e) (judged levels part k (drop k nodes)) → Reaches nodes (Err e) (cases_judged levels t simplex parts place (drop place nodes))
  case_refused OutOfMemory h = tt
  case_refused e h = next_case ∙ ap (after (cases_judged levels t simplex (drop (number + 1) parts))) h

-- ---- all nodes

pub fault_is : (t : Task) (nodes : List Node) → first_block t ≡ 1 → length nodes ≤ most_nodes → fault_of t nodes ≡ ended (judged most_levels t 0 nodes)
fault_is t nodes one few =
    let many = nat_lt most_nodes (length nodes) in
    ap (λ b. cond (not b) (Some FirstBlock) (cond many (Some (TooLarge most_nodes Nodes)) (ended (judged most_levels t 0 nodes)))) (eq-eqb (first_block t) 1 one)
    ∙ ap (λ b. cond b (Some (TooLarge most_nodes Nodes)) (ended (judged most_levels t 0 nodes))) (le-ltb most_nodes (length nodes) few)

pub refused_is : (nodes : List Node) (fault : Option TreeFault) (j : Judged) (e : TreeFault) → fault ≡ ended j → Reaches nodes (Err e) j → Judges (Err e) fault
refused_is nodes fault j OutOfMemory start h = tt
refused_is nodes fault j e start h = start ∙ ap ended h

pub behind_is : (nodes : List Node) (end : ℕ) → end < length nodes → ended (Ok (end, drop end nodes)) ≡ Some (Behind end)
behind_is nodes end low = ap (λ ns. ended (Ok (end, ns))) (drop_more nodes end (case_node 0) low)

pub ended_is : (nodes : List Node) (end : ℕ) → length nodes ≤ end → ended (Ok (end, drop end nodes)) ≡ None
ended_is nodes end high = ap (λ ns. ended (Ok (end, ns))) (drop_all end nodes high)

pub if_accepted : (r : Result (Unit {0}) TreeFault) (fault : Option TreeFault) (P : Type 0) → Judges r fault → (fault ≡ None → P) → OnOk r P
if_accepted (Ok u) fault P h f = f h
if_accepted (Err e) fault P h f = tt
