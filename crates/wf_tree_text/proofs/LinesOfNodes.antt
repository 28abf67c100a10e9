-- The lines of nodes, if there is one line more, and those of the first nodes.
use Rattle.std.proofs.Common.{◌≡◌, ℕ, zero, suc, ◌+◌, ◌==◌, ◌&&◌, ◌≤◌, List, [], ◌∷◌, ◌++◌, length, take, Option, Some, None, refl, sym, ◌∙◌, ap, subst, arith, append_assoc, append-nil, length-append}
use Rattle.std.specs.Option.{option_and_then}
use Rattle.std.proofs.lemmas.List.{map-append}
use Rattle.std.proofs.lemmas.Grind.{flat_map-append}
use Rattle.wf_model.specs.Report.{words_of}
use Rattle.wf_model.proofs.Lemmas.{some_of}
use Rattle.wf_tree_model.specs.Balance.{Multiplier}
use Rattle.wf_tree_model.specs.Trees.{Move, Node, balance_node, case_node, cover_node, split_node}
use Rattle.wf_report.proofs.Lemmas.{when_true}
use Rattle.wf_tree_text.specs.Text.{TextLine, at_last, balance_at, case_at, cover_at, line_of_words, lines_of_node, lines_of_nodes, may_follow, move_at, move_key, multiplier_at, multiplier_key, split_at, with_line, with_move, with_multiplier}
use Rattle.wf_tree_text.specs.Steps.{next_in}

-- ---- one line more

abbrev IsLonger : Node → TextLine → Node → Type 0
IsLonger n x m = lines_of_node m ≡ lines_of_node n ++ x ∷ []

move_more : (x : Move) (n m : Node) → with_move x n ≡ Some m → IsLonger n (move_at x) m
move_more x (case_node i) m h = absurd (let bad : ⊥ = cc in bad)
move_more x (split_node i) m h = absurd (let bad : ⊥ = cc in bad)
move_more x (cover_node i d c xs) m h =
    let parts = when_true ((length x.sheets == d) && may_follow move_key xs x) (Some (cover_node i d c (xs ++ x ∷ []))) m h in
    let same : cover_node i d c (xs ++ x ∷ []) ≡ m = let k = parts.1 in cc in
    subst (IsLonger (cover_node i d c xs) (move_at x)) same (ap (λ ls. cover_at i d c ∷ ls) (map-append move_at xs (x ∷ [])))
move_more x (balance_node k s xs) m h = absurd (let bad : ⊥ = cc in bad)

multiplier_more : (x : Multiplier) (n m : Node) → with_multiplier x n ≡ Some m → IsLonger n (multiplier_at x) m
multiplier_more x (case_node i) m h = absurd (let bad : ⊥ = cc in bad)
multiplier_more x (split_node i) m h = absurd (let bad : ⊥ = cc in bad)
multiplier_more x (cover_node i d c xs) m h = absurd (let bad : ⊥ = cc in bad)
multiplier_more x (balance_node k s xs) m h =
    let parts = when_true (may_follow multiplier_key xs x) (Some (balance_node k s (xs ++ x ∷ []))) m h in
    let same : balance_node k s (xs ++ x ∷ []) ≡ m = let e = parts.1 in cc in
    subst (IsLonger (balance_node k s xs) (multiplier_at x)) same (ap (λ ls. balance_at k s ∷ ls) (map-append multiplier_at xs (x ∷ [])))

abbrev AreLonger : List Node → TextLine → List Node → Type 0
AreLonger nodes x more = lines_of_nodes more ≡ lines_of_nodes nodes ++ x ∷ []

last_more : (change : Node → Option Node) (x : TextLine) → ((n m : Node) → change n ≡ Some m → IsLonger n x m) → (nodes more : List Node) → at_last change nodes ≡ Some more → AreLonger nodes x more
last_more change x longer [] more h = absurd (let bad : ⊥ = cc in bad)
last_more change x longer (n ∷ []) more h =
    let found = some_of (λ m. m ∷ []) (change n) more h in
    subst (AreLonger (n ∷ []) x) found.2 (append-nil (lines_of_node found.0) ∙ longer n found.0 found.1 ∙ ap (λ ls. ls ++ x ∷ []) (sym (append-nil (lines_of_node n))))
last_more change x longer (n ∷ m ∷ ns) more h =
    let found = some_of (λ ms. n ∷ ms) (at_last change (m ∷ ns)) more h in
    subst (AreLonger (n ∷ m ∷ ns) x) found.2 (
    ap (λ ls. lines_of_node n ++ ls) (last_more change x longer (m ∷ ns) found.0 found.1) ∙ sym (append_assoc (lines_of_node n) (lines_of_nodes (m ∷ ns)) (x ∷ [])))

node_more : (nodes more : List Node) (n : Node) (x : TextLine) → lines_of_node n ≡ x ∷ [] → Some (nodes ++ n ∷ []) ≡ Some more → AreLonger nodes x more
node_more nodes more n x own h =
    let same : nodes ++ n ∷ [] ≡ more = cc in
    subst (AreLonger nodes x) same (flat_map-append lines_of_node nodes (n ∷ []) ∙ ap (λ ls. lines_of_nodes nodes ++ ls) (append-nil (lines_of_node n) ∙ own))

pub line_more : (nodes more : List Node) (x : TextLine) → with_line nodes x ≡ Some more → AreLonger nodes x more
line_more nodes more (case_at i) h = node_more nodes more (case_node i) (case_at i) refl h
line_more nodes more (split_at i) h = node_more nodes more (split_node i) (split_at i) refl h
line_more nodes more (cover_at i d c) h = node_more nodes more (cover_node i d c []) (cover_at i d c) refl h
line_more nodes more (move_at x) h = last_more (with_move x) (move_at x) (move_more x) nodes more h
line_more nodes more (balance_at k s) h = node_more nodes more (balance_node k s []) (balance_at k s) refl h
line_more nodes more (multiplier_at x) h = last_more (with_multiplier x) (multiplier_at x) (multiplier_more x) nodes more h

pub next_longer : (nodes : List Node) (l : List ℕ) (more : List Node) → next_in nodes l ≡ Some more → length (lines_of_nodes more) ≡ length (lines_of_nodes nodes) + 1
next_longer nodes l more h = by_line (option_and_then line_of_words (words_of l)) h
  where
    by_line : (o : Option TextLine) → option_and_then (with_line nodes) o ≡ Some more → length (lines_of_nodes more) ≡ length (lines_of_nodes nodes) + 1
    by_line None e = absurd (let bad : ⊥ = cc in bad)
    by_line (Some x) e = ap length (line_more nodes more x e) ∙ length-append (lines_of_nodes nodes) (x ∷ [])

-- ---- the first nodes

pub no_more : (nodes : List Node) (n : ℕ) → length (lines_of_nodes (take n nodes)) ≤ length (lines_of_nodes nodes)
no_more nodes zero = omega arith
no_more [] (suc n) = omega arith
no_more (x ∷ nodes) (suc n) =
    let rest = no_more nodes n in
    let fewer = length-append (lines_of_node x) (lines_of_nodes (take n nodes)) in
    let all = length-append (lines_of_node x) (lines_of_nodes nodes) in
    omega (arith, rest, fewer, all)
