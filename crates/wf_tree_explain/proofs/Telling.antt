-- From node to node: what a node, a part and the end of the nodes come to.
use Rattle.std.proofs.Common.{◌≡◌, ℕ, zero, suc, ◌+◌, ◌-◌, ◌<◌, ◌≤◌, ◌⊎◌, ◌||◌, inl, inr, nat_lt, Bool, true, false, List, [], ◌∷◌, ◌++◌, drop, get_or, length, map, Option, None, Some, Result, Ok, Err, IfOk, OnOk, refl, sym, ap, ◌∙◌, arith, append_assoc, append-nil, codes}
use Rattle.std.specs.Prelude.{if◌then◌else◌, is_some}
use Rattle.std.specs.List.{list_any, remove}
use Rattle.std.proofs.lemmas.Bool.{le-ltb, lt-ltb, ltb-true, ltb-false}
use Rattle.std.proofs.lemmas.List.{at_drop_more, drop_all, drop_more, get_or-map, length-map}
use Rattle.wf_model.specs.Simplex.{Simplex}
use Rattle.wf_model.specs.Task.{Rule, Task, Tuple, inputs}
use Rattle.wf_tree_model.specs.Counting.Rules.{rule_at}
use Rattle.wf_tree_model.specs.Balance.{Multiplier}
use Rattle.wf_tree_model.specs.Cases.{components, in_case}
use Rattle.wf_tree_model.specs.Covers.{Covering, covered}
use Rattle.wf_tree_model.specs.Splits.{Splitting, by_stars, split}
use Rattle.wf_tree_model.specs.Trees.{Move, Node, balance_node, by_sheets, case_node, cover_node, new_name, split_node}
use Rattle.wf_tree_refine.specs.AtHand.{IsAtHand, at_hand}
use Rattle.wf_tree_refine.specs.Limits.{split_fault}
use Rattle.wf_tree_refine.specs.declared.fault.RefineFault.{RefineFault}
use Rattle.wf_tree_refine.proofs.Lemmas.{length-rules_seen, rule_here}
use Rattle.wf_tree_steps.proofs.OfBalance.Lemmas.{input_is, input_same}
use Rattle.wf_tree_steps.specs.Cover.Faults.{cover_fault}
use Rattle.wf_tree_steps.specs.Cover.Limits.{sheets_fault}
use Rattle.wf_tree_steps.specs.declared.cover.cover.CoverFault.{CoverFault}
use Rattle.wf_tree_text.specs.Seen.{node_seen, nodes_seen}
use Rattle.wf_tree_text.specs.declared.obstruction.TreeNode as code_node
use Rattle.wf_model.specs.Lists.{in_order}
use Rattle.wf_tree_explain.specs.Lists.{lines_of, list_text}
use Rattle.wf_tree_explain.specs.Words.{Told, balance_text, behind, case_text, count_text, cover_text, equation_text, first_of, indent_text, is_signed, multiplier_cmp, next_line, part_text, split_text, sum_text, times_text, told}
use Rattle.wf_tree_explain.specs.Walk.{Tells, parts_told}

-- ---- what was told, and what is left

pub nothing_told : (old : List ℕ) (all rest : Told) → all ≡ rest → Tells old old all rest
nothing_told old all rest is = record { text = ap (λ (u : Told). old ++ u.0) is; nodes = ap (λ (u : Told). u.1) is }

pub piece_told : (old new piece : List ℕ) (all rest : Told) → new ≡ old ++ piece → all ≡ behind piece rest → Tells old new all rest
piece_told old new piece all rest added is = record {
  text = ap (λ (u : Told). old ++ u.0) is ∙ sym (append_assoc old piece rest.0) ∙ ap (λ x. x ++ rest.0) (sym added);
  nodes = ap (λ (u : Told). u.1) is;
}

-- the rest was told too
pub rest_text : {E : Type 0} (r : Result ℕ E) (old mid new : List ℕ) (all rest : Told) → Tells old mid all rest → OnOk r (new ≡ mid ++ rest.0) → OnOk r (new ≡ old ++ all.0)
rest_text (Ok end) old mid new all rest so_far h = h ∙ sym so_far.text
rest_text (Err e) old mid new all rest so_far h = tt

pub rest_nodes : {E : Type 0} (r : Result ℕ E) (old mid : List ℕ) (nodes : List Node) (all rest : Told) → Tells old mid all rest → IfOk r (λ end. drop end nodes ≡ rest.1) → IfOk r (λ end. drop end nodes ≡ all.1)
rest_nodes (Ok end) old mid nodes all rest so_far h = h ∙ sym so_far.nodes
rest_nodes (Err e) old mid nodes all rest so_far h = tt

-- no text is left
pub ended_text : (old new : List ℕ) (all rest : Told) → rest.0 ≡ [] → Tells old new all rest → new ≡ old ++ all.0
ended_text old new all rest none h = sym (append-nil new) ∙ ap (λ x. new ++ x) (sym none) ∙ sym h.text

-- ---- the simplex of a node

is_there : (t : Task) (rows : List (List Tuple)) (simplex : ℕ) → IsAtHand t rows → simplex < length rows → nat_lt simplex (length (at_hand t rows).delta) ≡ true
is_there t rows simplex h low =
    let each = h.each in
    let seen = length-rules_seen (inputs t) rows each in
    lt-ltb simplex (length (at_hand t rows).delta) (omega (arith, low, each, seen))

is_past : (t : Task) (rows : List (List Tuple)) (simplex : ℕ) → IsAtHand t rows → length rows ≤ simplex → nat_lt simplex (length (at_hand t rows).delta) ≡ false
is_past t rows simplex h high =
    let each = h.each in
    let seen = length-rules_seen (inputs t) rows each in
    le-ltb simplex (length (at_hand t rows).delta) (omega (arith, high, each, seen))

pub hand_input : (t : Task) (rows : List (List Tuple)) (simplices : List Simplex) (n : ℕ) (s : Simplex) → IsAtHand t rows → n < length rows → simplices ≡ inputs t → s ≡ get_or simplices n s → s ≡ (rule_at (at_hand t rows) n).input
hand_input t rows simplices n s h low are is =
    let each = h.each in
    let long = length-map t.delta (λ (rule : Rule). rule.input) in
    input_is t simplices n s are (omega (arith, low, each, long)) is ∙ sym (input_same t rows n each)

pub hand_tuples : {V : Type 0} (t : Task) (f : V → List Tuple) (vs : List V) (n : ℕ) (v : V) → IsAtHand t (map f vs) → n < length vs → v ≡ get_or vs n v → (rule_at (at_hand t (map f vs)) n).tuples ≡ f v
hand_tuples t f vs n v h low here =
    let long = length-map vs f in
    let at = rule_here t (map f vs) n (get_or (inputs t) n []) (get_or (map f vs) n []) h.each (omega (arith, low, long)) refl refl in
    ap (λ (rule : Rule). rule.tuples) at ∙ get_or-map f vs n v [] low ∙ ap f (sym here)

pub none_from : {X : Type 0} (o : Option X) → is_some o ≡ false → o ≡ None
none_from None h = refl
none_from (Some x) h = absurd (let bad : ⊥ = cc in bad)

-- ---- nodes

none_told : (levels : ℕ) (t : Task) (depth : ℕ) → told levels t depth [] ≡ ([], [])
none_told zero t depth = refl
none_told (suc levels) t depth = refl

pub balance_told : (levels : ℕ) (t : Task) (depth modulus sum : ℕ) (xs : List Multiplier) (nodes : List Node) → told levels t depth (balance_node modulus sum xs ∷ nodes) ≡ behind (balance_text t depth modulus sum xs) ([], nodes)
balance_told zero t depth modulus sum xs nodes = ap (λ x. (x, nodes)) (sym (append-nil (balance_text t depth modulus sum xs)))
balance_told (suc levels) t depth modulus sum xs nodes = ap (λ x. (x, nodes)) (sym (append-nil (balance_text t depth modulus sum xs)))

-- a task at hand has the inputs of the task
pub hand_balance : (t : Task) (rows : List (List Tuple)) (depth modulus sum : ℕ) (xs : List Multiplier) (nodes : List Node) → IsAtHand t rows
    → behind (balance_text (at_hand t rows) depth modulus sum xs) ([], nodes) ≡ behind (balance_text t depth modulus sum xs) ([], nodes)
hand_balance t rows depth modulus sum xs nodes at =
    let by : (ℕ → Simplex) → List ℕ = λ input.
    indent_text depth
    ++ (count_text modulus
    ++ (list_text (λ line. next_line depth (equation_text (input (first_of line).simplex) (remove (input (first_of line).simplex) (first_of line).place) line ++ times_text (first_of line).weight)) (codes ",") (codes ",") (lines_of (in_order multiplier_cmp xs))
    ++ (codes ".\n" ++ (indent_text depth ++ sum_text modulus sum)))) in
    let same : (λ n. (rule_at (at_hand t rows) n).input) ≡ (λ n. (rule_at t n).input) = λ i n. input_same t rows n at.each i in
    ap (λ (input : ℕ → Simplex). behind (by input) ([], nodes)) same

module _ (t : Task) (rows : List (List Tuple)) (simplex depth : ℕ) (nodes : List Node) (at : IsAtHand t rows) where
  abbrev hand : Task
  hand = at_hand t rows

  abbrev here : Bool
  here = nat_lt simplex (length hand.delta)

  -- ---- cases

  abbrev all_parts : ℕ → Told
  all_parts levels = behind (case_text depth (rule_at hand simplex).input (length (components (rule_at hand simplex)))) (parts_told levels hand depth simplex 0 (components (rule_at hand simplex)) nodes)

  pub case_past : (levels : ℕ) → (levels ≡ 0) ⊎ (length rows ≤ simplex) → told levels hand depth (case_node simplex ∷ nodes) ≡ ([], nodes)
  case_past zero h = refl
  case_past (suc levels) (inl none) = absurd (let bad : ⊥ = omega (arith, none) in bad)
  case_past (suc levels) (inr high) = ap (λ b. if b then all_parts levels else ([], nodes)) (is_past t rows simplex at high)

  pub case_there : (levels : ℕ) → 0 < levels → simplex < length rows → told levels hand depth (case_node simplex ∷ nodes) ≡ all_parts (levels - 1)
  case_there levels some low =
      let e : suc (levels - 1) ≡ levels = omega (arith, some) in
      ap (λ m. told m hand depth (case_node simplex ∷ nodes)) (sym e)
      ∙ ap (λ b. if b then all_parts (levels - 1) else ([], nodes)) (is_there t rows simplex at low)

  -- ---- splits

  abbrev splitting : Splitting
  splitting = by_stars (rule_at hand simplex) (new_name hand)

  abbrev if_split : Told → Option RefineFault → Told
  if_split more o = elim o [ Some fault ↦ ([], nodes) | None ↦ behind (split_text depth splitting (new_name hand)) more ]

  pub split_past : (levels : ℕ) → (levels ≡ 0) ⊎ (length rows ≤ simplex) → told levels hand depth (split_node simplex ∷ nodes) ≡ ([], nodes)
  split_past zero h = refl
  split_past (suc levels) (inl none) = absurd (let bad : ⊥ = omega (arith, none) in bad)
  split_past (suc levels) (inr high) = ap (λ b. if b then if_split (told levels (split splitting hand) depth nodes) (split_fault splitting hand) else ([], nodes)) (is_past t rows simplex at high)

  split_here : (levels : ℕ) → 0 < levels → simplex < length rows → told levels hand depth (split_node simplex ∷ nodes) ≡ if_split (told (levels - 1) (split splitting hand) depth nodes) (split_fault splitting hand)
  split_here levels some low =
      let e : suc (levels - 1) ≡ levels = omega (arith, some) in
      ap (λ m. told m hand depth (split_node simplex ∷ nodes)) (sym e)
      ∙ ap (λ b. if b then if_split (told (levels - 1) (split splitting hand) depth nodes) (split_fault splitting hand) else ([], nodes)) (is_there t rows simplex at low)

  pub split_there : (levels : ℕ) (found : List (List Tuple)) → 0 < levels → simplex < length rows → split_fault splitting hand ≡ None → at_hand t found ≡ split splitting hand
      → told levels hand depth (split_node simplex ∷ nodes) ≡ behind (split_text depth splitting (new_name hand)) (told (levels - 1) (at_hand t found) depth nodes)
  split_there levels found some low none made =
      split_here levels some low ∙ ap (if_split (told (levels - 1) (split splitting hand) depth nodes)) none
      ∙ ap (λ u. behind (split_text depth splitting (new_name hand)) (told (levels - 1) u depth nodes)) (sym made)

  -- ---- covers

  module _ (sheets corner : ℕ) (moves : List Move) where
    abbrev covering : Covering
    covering = by_sheets hand (rule_at hand simplex) sheets corner moves

    abbrev if_sheets : Told → Option RefineFault → Told
    if_sheets more o = elim o [ Some fault ↦ ([], nodes) | None ↦ behind (cover_text depth (rule_at hand simplex).input (new_name hand) sheets corner moves) more ]

    abbrev if_cover : Told → Option CoverFault → Told
    if_cover more o = elim o [ Some fault ↦ ([], nodes) | None ↦ if_sheets more (sheets_fault covering hand) ]

    pub cover_past : (levels : ℕ) → (levels ≡ 0) ⊎ (length rows ≤ simplex) → told levels hand depth (cover_node simplex sheets corner moves ∷ nodes) ≡ ([], nodes)
    cover_past zero h = refl
    cover_past (suc levels) (inl none) = absurd (let bad : ⊥ = omega (arith, none) in bad)
    cover_past (suc levels) (inr high) = ap (λ b. if b then if_cover (told levels (covered covering hand) depth nodes) (cover_fault covering) else ([], nodes)) (is_past t rows simplex at high)

    cover_here : (levels : ℕ) → 0 < levels → simplex < length rows → told levels hand depth (cover_node simplex sheets corner moves ∷ nodes) ≡ if_cover (told (levels - 1) (covered covering hand) depth nodes) (cover_fault covering)
    cover_here levels some low =
        let e : suc (levels - 1) ≡ levels = omega (arith, some) in
        ap (λ m. told m hand depth (cover_node simplex sheets corner moves ∷ nodes)) (sym e)
        ∙ ap (λ b. if b then if_cover (told (levels - 1) (covered covering hand) depth nodes) (cover_fault covering) else ([], nodes)) (is_there t rows simplex at low)

    pub cover_there : (levels : ℕ) (found : List (List Tuple)) → 0 < levels → simplex < length rows → cover_fault covering ≡ None → sheets_fault covering hand ≡ None → at_hand t found ≡ covered covering hand
        → told levels hand depth (cover_node simplex sheets corner moves ∷ nodes) ≡ behind (cover_text depth (rule_at hand simplex).input (new_name hand) sheets corner moves) (told (levels - 1) (at_hand t found) depth nodes)
    cover_there levels found some low none within made =
        cover_here levels some low ∙ ap (if_cover (told (levels - 1) (covered covering hand) depth nodes)) none
        ∙ ap (if_sheets (told (levels - 1) (covered covering hand) depth nodes)) within
        ∙ ap (λ u. behind (cover_text depth (rule_at hand simplex).input (new_name hand) sheets corner moves) (told (levels - 1) u depth nodes)) (sym made)

-- ---- from place to place

pub node_there : (nodes : List code_node.TreeNode) (place : ℕ) (n : code_node.TreeNode) → true ≡ nat_lt place (length nodes) → n ≡ get_or nodes place n
    → drop place (nodes_seen nodes) ≡ node_seen n ∷ drop (place + 1) (nodes_seen nodes)
node_there nodes place n low here =
    let inside : place < length nodes = ltb-true place (length nodes) (sym low) in
    let long = length-map nodes node_seen in
    drop_more (nodes_seen nodes) place (node_seen n) (omega (arith, inside, long))
    ∙ ap (λ x. x ∷ drop (place + 1) (nodes_seen nodes)) (get_or-map node_seen nodes place n (node_seen n) inside ∙ ap node_seen (sym here))

pub no_node : (nodes : List code_node.TreeNode) (place : ℕ) → false ≡ nat_lt place (length nodes) → length (nodes_seen nodes) ≤ place
no_node nodes place high = let past = ltb-false place (length nodes) (sym high) in let long = length-map nodes node_seen in omega (arith, past, long)

-- one part more was told
pub part_more : (levels : ℕ) (t : Task) (depth simplex number : ℕ) (parts : List (List Tuple)) (nodes : List Node) (u : Task) (old text mid new : List ℕ) (all : Told) (next next' : ℕ) → number < length parts → u ≡ in_case (rule_at t simplex) (get_or parts number []) t
    → mid ≡ text ++ part_text depth number (rule_at u simplex).tuples → new ≡ mid ++ (told levels u (depth + 1) (drop next nodes)).0 → drop next' nodes ≡ (told levels u (depth + 1) (drop next nodes)).1
    → Tells old text all (parts_told levels t depth simplex number (drop number parts) (drop next nodes))
    → Tells old new all (parts_told levels t depth simplex (number + 1) (drop (number + 1) parts) (drop next' nodes))
part_more levels t depth simplex number parts nodes u old text mid new all next next' low case first second end so_far =
    let e : depth + 1 ≡ suc depth = omega arith in
    let k : suc number ≡ number + 1 = omega arith in
    let tree : Told = told levels u (suc depth) (drop next nodes) in
    let piece = part_text depth number (rule_at u simplex).tuples in
    let rest : ℕ → List Node → Told = λ n ns. parts_told levels t depth simplex n (drop (number + 1) parts) ns in
    let step : parts_told levels t depth simplex number (drop number parts) (drop next nodes) ≡ behind (piece ++ tree.0) (rest (suc number) tree.1) =
    at_drop_more (λ ps. parts_told levels t depth simplex number ps (drop next nodes)) parts number [] low
    ∙ ap (λ v. behind (part_text depth number (rule_at v simplex).tuples ++ (told levels v (suc depth) (drop next nodes)).0) (rest (suc number) (told levels v (suc depth) (drop next nodes)).1)) (sym case) in
    let ends : tree.1 ≡ drop next' nodes = sym (end ∙ ap (λ d. (told levels u d (drop next nodes)).1) e) in
    let whole : parts_told levels t depth simplex number (drop number parts) (drop next nodes) ≡ behind (piece ++ tree.0) (rest (number + 1) (drop next' nodes)) =
    step ∙ ap (λ n. behind (piece ++ tree.0) (rest n tree.1)) k ∙ ap (λ ns. behind (piece ++ tree.0) (rest (number + 1) ns)) ends in
    let added : new ≡ text ++ (piece ++ tree.0) =
    second ∙ ap (λ d. mid ++ (told levels u d (drop next nodes)).0) e ∙ ap (λ x. x ++ tree.0) first ∙ append_assoc text piece tree.0 in
    record {
      text = so_far.text ∙ (piece_told text new (piece ++ tree.0) (parts_told levels t depth simplex number (drop number parts) (drop next nodes)) (rest (number + 1) (drop next' nodes)) added whole).text;
      nodes = so_far.nodes ∙ ap (λ (v : Told). v.1) whole;
    }

pub no_part : (levels : ℕ) (t : Task) (depth simplex number : ℕ) (parts : List (List Tuple)) (nodes : List Node) → length parts ≤ number → parts_told levels t depth simplex number (drop number parts) nodes ≡ ([], nodes)
no_part levels t depth simplex number parts nodes past = ap (λ ps. parts_told levels t depth simplex number ps nodes) (drop_all number parts past)

pub any_seen : (nodes : List code_node.TreeNode) → list_any is_signed (nodes_seen nodes) ≡ list_any (λ n. is_signed (node_seen n)) nodes
any_seen [] = refl
any_seen (n ∷ nodes) = ap (λ b. is_signed (node_seen n) || b) (any_seen nodes)

-- ---- splits

pub split_of_rule : (t : Task) (rule : Rule) (s : Simplex) (items rows : List Tuple) (new : ℕ) → rule ≡ record { input = s; tuples = items } → rows ≡ items → new ≡ new_name t → by_stars (record { input = s; tuples = rows }) new ≡ by_stars rule (new_name t)
split_of_rule t rule s items rows new is same name =
    ap (λ tuples. by_stars (record { input = s; tuples = tuples }) new) same ∙ ap (λ r. by_stars r new) (sym is) ∙ ap (by_stars rule) name
