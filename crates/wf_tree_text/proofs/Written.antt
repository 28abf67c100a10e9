-- What is written is read again.
use Rattle.std.proofs.Common.{◌≡◌, ℕ, suc, ◌≤◌, ◌&&◌, ◌++◌, List, [], ◌∷◌, length, map, flat_map, true, cond, Option, Some, None, option_map, Ok, codes, decimal, refl, sym, ◌∙◌, ap, subst, arith, append_assoc, append-nil}
use Rattle.std.proofs.lemmas.Bool.{eq-eqb}
use Rattle.std.specs.Option.{option_and_then}
use Rattle.std.specs.List.{AllByRecursion}
use Rattle.std.proofs.lemmas.List.Elements.{recursion_from_All}
use Rattle.wf_model.specs.Limits.{most_number}
use Rattle.wf_model.specs.Report.{fixed_at, line, lines_of, number_at, then_read}
use Rattle.wf_tree_model.specs.Balance.{Multiplier}
use Rattle.wf_tree_model.specs.Trees.{Move, Node, balance_node, case_node, cover_node, split_node}
use Rattle.wf_report.proofs.Lemmas.{is_line, number_read, number_there, words_are}
use Rattle.wf_tree_text.specs.Text.{Obstruction, TextLine, at_last, end_at, first_line, line_of_numbers, line_of_words, line_text, lines_of_node, lines_of_nodes, may_follow, move_at, move_key, multiplier_at, multiplier_key, name_of, nodes_from, numbers_of, numbers_of_words, obstruction_of, obstruction_text, with_line, with_move, with_multiplier}
use Rattle.wf_tree_text.specs.Laws.{Ascend, IsInGrammar, IsMoveWithin, IsMultiplierWithin, IsNodeWithin}
use Rattle.wf_tree_text.specs.Steps.{next_in}
use Rattle.wf_tree_text.proofs.LineWords.{IsLineWithin, line_read, not_end, numbers_low, plain_name}
use Rattle.wf_tree_text.proofs.NodeLines.{first_is, onto}

-- ---- lines

numbers_read : (ns : List ℕ) → AllByRecursion (λ n. n ≤ most_number) ns → numbers_of_words (map decimal ns) ≡ Some ns
numbers_read [] h = refl
numbers_read (n ∷ ns) h = (λ i. option_and_then (λ n. option_map (λ ns. n ∷ ns) (numbers_read ns h.1 i)) (number_read most_number n h.0 h.0 i))

line_next : (nodes : List Node) (x : TextLine) → IsLineWithin x → next_in nodes (line_text x) ≡ with_line nodes x
line_next nodes x h =
    let low = numbers_low x h in
    ap (λ o. option_and_then (with_line nodes) (option_and_then line_of_words o)) (words_are (name_of x) (numbers_of x) (plain_name x).0 (plain_name x).1 low)
    ∙ ap (λ o. option_and_then (with_line nodes) (option_and_then (line_of_numbers (name_of x)) o)) (numbers_read (numbers_of x) low)
    ∙ ap (option_and_then (with_line nodes)) (line_read x h)

-- the nodes with these lines
abbrev with_lines : List Node → List TextLine → Option (List Node)
with_lines nodes [] = Some nodes
with_lines nodes (x ∷ xs) = option_and_then (λ more. with_lines more xs) (with_line nodes x)

lines_read : (xs : List TextLine) (k : ℕ) (nodes all : List Node) → AllByRecursion IsLineWithin xs → with_lines nodes xs ≡ Some all
    → nodes_from k nodes (lines_of (flat_map line_text xs ++ line (codes "end") [])) ≡ Ok all
lines_read [] k nodes all h e = let same : nodes ≡ all = cc in ap Ok same
lines_read (x ∷ xs) k nodes all h e =
    let rest = flat_map line_text xs ++ line (codes "end") [] in
    ap (λ t. nodes_from k nodes (lines_of t)) (append_assoc (line_text x) (flat_map line_text xs) (line (codes "end") []))
    ∙ ap (nodes_from k nodes) (is_line (name_of x) (numbers_of x) (plain_name x).0 (numbers_low x h.0) rest)
    ∙ first_is k nodes (line_text x) (lines_of rest)
    ∙ (λ i. cond (not_end x i) (end_at k nodes (lines_of rest)) (onto (line_next nodes x h.0 i) k (λ ns. nodes_from (suc k) ns (lines_of rest))))
    ∙ by_next (with_line nodes x) e (λ more. lines_read xs (suc k) more all h.1)
  where
    by_next : (o : Option (List Node)) → option_and_then (λ more. with_lines more xs) o ≡ Some all
        → ((more : List Node) → with_lines more xs ≡ Some all → nodes_from (suc k) more (lines_of (flat_map line_text xs ++ line (codes "end") [])) ≡ Ok all)
        → onto o k (λ ns. nodes_from (suc k) ns (lines_of (flat_map line_text xs ++ line (codes "end") []))) ≡ Ok all
    by_next None e rest = absurd (let bad : ⊥ = cc in bad)
    by_next (Some more) e rest = rest more e

-- ---- nodes

at_last_is : (change : Node → Option Node) (nodes : List Node) (n : Node) → at_last change (nodes ++ n ∷ []) ≡ option_map (λ m. nodes ++ m ∷ []) (change n)
at_last_is change [] n = refl
at_last_is change (m ∷ []) n = by_change (change n)
  where
    by_change : (o : Option Node) → option_map (λ ms. m ∷ ms) (option_map (λ m. m ∷ []) o) ≡ option_map (λ k. m ∷ k ∷ []) o
    by_change None = refl
    by_change (Some k) = refl
at_last_is change (m ∷ l ∷ nodes) n = ap (option_map (λ ms. m ∷ ms)) (at_last_is change (l ∷ nodes) n) ∙ by_change (change n)
  where
    by_change : (o : Option Node) → option_map (λ ms. m ∷ ms) (option_map (λ k. l ∷ (nodes ++ k ∷ [])) o) ≡ option_map (λ k. m ∷ l ∷ (nodes ++ k ∷ [])) o
    by_change None = refl
    by_change (Some k) = refl

follows : {X : Type 0} (key : X → List ℕ) (xs : List X) (x : X) (ys : List X) → Ascend key (xs ++ x ∷ ys) → may_follow key xs x ≡ true
follows key [] x ys h = refl
follows key (y ∷ []) x ys h = h.0
follows key (y ∷ z ∷ xs) x ys h = follows key (z ∷ xs) x ys h.1

multipliers_added : (nodes : List Node) (m s : ℕ) (done xs : List Multiplier) (rest : List TextLine) → Ascend multiplier_key (done ++ xs)
    → with_lines (nodes ++ balance_node m s done ∷ []) (map multiplier_at xs ++ rest) ≡ with_lines (nodes ++ balance_node m s (done ++ xs) ∷ []) rest
multipliers_added nodes m s done [] rest h = ap (λ ys. with_lines (nodes ++ balance_node m s ys ∷ []) rest) (sym (append-nil done))
multipliers_added nodes m s done (x ∷ xs) rest h =
    let more = sym (append_assoc done (x ∷ []) xs) in
    ap (option_and_then (λ all. with_lines all (map multiplier_at xs ++ rest)))
    (at_last_is (with_multiplier x) nodes (balance_node m s done)
    ∙ ap (λ t. option_map (λ n. nodes ++ n ∷ []) (cond t (Some (balance_node m s (done ++ x ∷ []))) None)) (follows multiplier_key done x xs h))
    ∙ multipliers_added nodes m s (done ++ x ∷ []) xs rest (subst (Ascend multiplier_key) more h)
    ∙ ap (λ ys. with_lines (nodes ++ balance_node m s ys ∷ []) rest) (sym more)

moves_added : (nodes : List Node) (i d c : ℕ) (done xs : List Move) (rest : List TextLine) → AllByRecursion (IsMoveWithin d) xs → Ascend move_key (done ++ xs)
    → with_lines (nodes ++ cover_node i d c done ∷ []) (map move_at xs ++ rest) ≡ with_lines (nodes ++ cover_node i d c (done ++ xs) ∷ []) rest
moves_added nodes i d c done [] rest within h = ap (λ ys. with_lines (nodes ++ cover_node i d c ys ∷ []) rest) (sym (append-nil done))
moves_added nodes i d c done (x ∷ xs) rest within h =
    let more = sym (append_assoc done (x ∷ []) xs) in
    ap (option_and_then (λ all. with_lines all (map move_at xs ++ rest)))
    (at_last_is (with_move x) nodes (cover_node i d c done)
    ∙ (λ j. option_map (λ n. nodes ++ n ∷ []) (cond (eq-eqb (length x.sheets) d within.0.long j && follows move_key done x xs h j) (Some (cover_node i d c (done ++ x ∷ []))) None)))
    ∙ moves_added nodes i d c (done ++ x ∷ []) xs rest within.1 (subst (Ascend move_key) more h)
    ∙ ap (λ ys. with_lines (nodes ++ cover_node i d c ys ∷ []) rest) (sym more)

node_added : (nodes : List Node) (n : Node) (rest : List TextLine) → IsNodeWithin n → with_lines nodes (lines_of_node n ++ rest) ≡ with_lines (nodes ++ n ∷ []) rest
node_added nodes (case_node i) rest h = refl
node_added nodes (split_node i) rest h = refl
node_added nodes (cover_node i d c xs) rest h = moves_added nodes i d c [] xs rest (recursion_from_All (IsMoveWithin d) xs h.moves) h.ascending
node_added nodes (balance_node m s xs) rest h = multipliers_added nodes m s [] xs rest h.ascending

nodes_added : (nodes more : List Node) → AllByRecursion IsNodeWithin more → with_lines nodes (lines_of_nodes more) ≡ Some (nodes ++ more)
nodes_added nodes [] h = ap Some (sym (append-nil nodes))
nodes_added nodes (n ∷ more) h = node_added nodes n (lines_of_nodes more) h.0 ∙ nodes_added (nodes ++ n ∷ []) more h.1 ∙ ap Some (append_assoc nodes (n ∷ []) more)

-- ---- the lines of nodes

appended : (xs ys : List TextLine) → AllByRecursion IsLineWithin xs → AllByRecursion IsLineWithin ys → AllByRecursion IsLineWithin (xs ++ ys)
appended [] ys h k = k
appended (x ∷ xs) ys h k = (h.0, appended xs ys h.1 k)

moves_within : (d : ℕ) (xs : List Move) → d ≤ 255 → AllByRecursion (IsMoveWithin d) xs → AllByRecursion IsLineWithin (map move_at xs)
moves_within d [] low h = tt
moves_within d (x ∷ xs) low h =
    let long = h.0.long in
    ((omega (arith, long, low), subst (λ n. IsMoveWithin n x) (sym long) h.0), moves_within d xs low h.1)

multipliers_within : (xs : List Multiplier) → AllByRecursion IsMultiplierWithin xs → AllByRecursion IsLineWithin (map multiplier_at xs)
multipliers_within [] h = tt
multipliers_within (x ∷ xs) h = (h.0, multipliers_within xs h.1)

lines_within : (n : Node) → IsNodeWithin n → AllByRecursion IsLineWithin (lines_of_node n)
lines_within (case_node i) h = (h, tt)
lines_within (split_node i) h = (h, tt)
lines_within (cover_node i d c xs) h = ((h.simplex, h.some, h.few, h.corner), moves_within d xs h.few (recursion_from_All (IsMoveWithin d) xs h.moves))
lines_within (balance_node m s xs) h = ((h.modulus, h.sum), multipliers_within xs (recursion_from_All IsMultiplierWithin xs h.multipliers))

all_within : (nodes : List Node) → AllByRecursion IsNodeWithin nodes → AllByRecursion IsLineWithin (lines_of_nodes nodes)
all_within [] h = tt
all_within (n ∷ nodes) h = appended (lines_of_node n) (lines_of_nodes nodes) (lines_within n h.0) (all_within nodes h.1)

-- ---- obstructions

pub written_read : (o : Obstruction) → IsInGrammar o → obstruction_of (obstruction_text o) ≡ Ok o
written_read o h =
    let nodes = flat_map line_text (lines_of_nodes o.nodes) ++ line (codes "end") [] in
    let at_simplices = line (codes "simplices") (o.simplices ∷ []) ++ nodes in
    let at_processes = line (codes "processes") (o.processes ∷ []) ++ at_simplices in
    let within = recursion_from_All IsNodeWithin o.nodes h.nodes in
    let first : fixed_at 1 (line (codes "wfcheck obstruction 1") []) (lines_of (obstruction_text o)) ≡ Ok (lines_of at_processes) = ap (fixed_at 1 (line (codes "wfcheck obstruction 1") [])) (is_line (codes "wfcheck obstruction 1") [] refl tt at_processes) in
    ap (λ x. then_read x λ ls. then_read (number_at 2 (codes "processes") ls) λ n. then_read (number_at 3 (codes "simplices") n.1) λ k. then_read (nodes_from first_line [] k.1) λ ns. Ok (record { processes = n.0; simplices = k.0; nodes = ns })) first
    ∙ ap (λ x. then_read x λ n. then_read (number_at 3 (codes "simplices") n.1) λ k. then_read (nodes_from first_line [] k.1) λ ns. Ok (record { processes = n.0; simplices = k.0; nodes = ns })) (number_there 2 (codes "processes") at_simplices o.processes refl refl refl h.processes)
    ∙ ap (λ x. then_read x λ k. then_read (nodes_from first_line [] k.1) λ ns. Ok (record { processes = o.processes; simplices = k.0; nodes = ns })) (number_there 3 (codes "simplices") nodes o.simplices refl refl refl h.simplices)
    ∙ ap (λ x. then_read x λ ns. Ok (record { processes = o.processes; simplices = o.simplices; nodes = ns })) (lines_read (lines_of_nodes o.nodes) first_line [] o.nodes (all_within o.nodes within) (nodes_added [] o.nodes within))
