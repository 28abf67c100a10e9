-- What is read was written so.
use Rattle.std.proofs.Common.{◌≡◌, ℕ, suc, ◌≤◌, ◌==◌, ◌&&◌, ◌++◌, List, [], ◌∷◌, length, flat_map, Bool, true, false, cond, Option, Some, None, option_map, Ok, codes, refl, sym, ◌∙◌, ap, subst, arith, append_assoc, append-nil, eqb-true}
use Rattle.std.specs.Option.{option_and_then}
use Rattle.std.specs.List.{AllByRecursion}
use Rattle.std.specs.Cmp.Lexicographic as std
use Rattle.std.proofs.lemmas.Bool.{and_parts}
use Rattle.std.proofs.lemmas.List.Elements.{All-from_recursion, recursion_from_All}
use Rattle.wf_model.specs.Limits.{most_number}
use Rattle.wf_model.specs.Report.{fixed_at, line, lines_of, number_at, number_upto, numbers_text, same_text, words_of}
use Rattle.wf_model.proofs.Lemmas.{some_of}
use Rattle.wf_tree_model.specs.Balance.{Multiplier}
use Rattle.wf_tree_model.specs.Trees.{Move, Node, balance_node, case_node, cover_node, split_node}
use Rattle.wf_report.proofs.Lemmas.{fixed_there, joined, number_found, spelt, text_by_words, then_ok, when_true, words_text}
use Rattle.wf_tree_text.specs.Text.{Obstruction, TextLine, at_last, balance_at, case_at, cover_at, end_at, first_line, line_of_numbers, line_of_words, line_text, lines_of_nodes, may_follow, move_at, move_key, multiplier_at, multiplier_key, nodes_from, numbers_of_words, obstruction_of, obstruction_text, split_at, with_line, with_move, with_multiplier}
use Rattle.wf_tree_text.specs.Laws.{Ascend, IsBalanceWithin, IsCoverWithin, IsInGrammar, IsMoveWithin, IsMultiplierWithin, IsNodeWithin}
use Rattle.wf_tree_text.specs.Steps.{next_in}
use Rattle.wf_tree_text.proofs.LineWords.{IsLineWithin, line_said}
use Rattle.wf_tree_text.proofs.LinesOfNodes.{line_more}
use Rattle.wf_tree_text.proofs.NodeLines.{first_is, onto}

-- ---- words of a line

-- the words are the decimals of these numbers, each at most as great as a line may hold
record Spell (ws : List (List ℕ)) (ns : List ℕ) : Type 0 where
  text : words_text ws ≡ numbers_text ns
  within : AllByRecursion (λ n. n ≤ most_number) ns

spelt_all : (ws : List (List ℕ)) (ns : List ℕ) → numbers_of_words ws ≡ Some ns → Spell ws ns
spelt_all [] ns h = let same : [] ≡ ns = cc in subst (Spell []) same (record { text = refl; within = tt })
spelt_all (w ∷ ws) ns h = by_first (number_upto most_number w) refl h (λ ms. spelt_all ws ms)
  where
    by_first : (o : Option ℕ) → number_upto most_number w ≡ o → option_and_then (λ n. option_map (λ ns. n ∷ ns) (numbers_of_words ws)) o ≡ Some ns
        → ((ms : List ℕ) → numbers_of_words ws ≡ Some ms → Spell ws ms) → Spell (w ∷ ws) ns
    by_first None e h rest = absurd (let bad : ⊥ = cc in bad)
    by_first (Some n) e h rest =
        let found = some_of (λ ns. n ∷ ns) (numbers_of_words ws) ns h in
        let one = spelt most_number n w (omega arith) e in
        let more = rest found.0 found.1 in
        subst (Spell (w ∷ ws)) found.2 (record { text = (λ i. 32 ∷ (one.0 i ++ more.text i)); within = (one.1, more.within) })

-- ---- what a line says

abbrev IsLineOf : List ℕ → TextLine → Type 0
IsLineOf l x = (l ≡ line_text x) × IsLineWithin x

line_there : (l : List ℕ) (x : TextLine) → option_and_then line_of_words (words_of l) ≡ Some x → IsLineOf l x
line_there l x h = by_words (words_of l) refl h
  where
    by_numbers : (name : List ℕ) (ws : List (List ℕ)) (o : Option (List ℕ)) → words_of l ≡ Some (name ∷ ws) → numbers_of_words ws ≡ o → option_and_then (line_of_numbers name) o ≡ Some x → IsLineOf l x
    by_numbers name ws None e f h = absurd (let bad : ⊥ = cc in bad)
    by_numbers name ws (Some ns) e f h =
        let spell = spelt_all ws ns f in
        let said = line_said name ns x spell.within h in
        (text_by_words l name ws e ∙ ap (λ t. name ++ t) spell.text ∙ (λ i. said.0 i ++ numbers_text (said.1 i)), said.2)

    by_words : (o : Option (List (List ℕ))) → words_of l ≡ o → option_and_then line_of_words o ≡ Some x → IsLineOf l x
    by_words None e h = absurd (let bad : ⊥ = cc in bad)
    by_words (Some []) e h = absurd (let bad : ⊥ = cc in bad)
    by_words (Some (name ∷ ws)) e h = by_numbers name ws (numbers_of_words ws) e refl h

-- the line that was added to the nodes
abbrev IsNext : List Node → List ℕ → List Node → TextLine → Type 0
IsNext nodes l more x = IsLineOf l x × (with_line nodes x ≡ Some more)

next_there : (nodes : List Node) (l : List ℕ) (more : List Node) → next_in nodes l ≡ Some more → (x : TextLine) × IsNext nodes l more x
next_there nodes l more h = by_line (option_and_then line_of_words (words_of l)) refl h
  where
    by_line : (o : Option TextLine) → option_and_then line_of_words (words_of l) ≡ o → option_and_then (with_line nodes) o ≡ Some more → (x : TextLine) × IsNext nodes l more x
    by_line None e h = absurd (let bad : ⊥ = cc in bad)
    by_line (Some x) e h = (x, (line_there l x e, h))

-- ---- nodes stay within

abbrev AreWithin : List Node → Type 0
AreWithin nodes = AllByRecursion IsNodeWithin nodes

added : {X : Type 0} (P : X → Type 0) (xs : List X) (x : X) → AllByRecursion P xs → P x → AllByRecursion P (xs ++ x ∷ [])
added P [] x h k = (k, tt)
added P (y ∷ xs) x h k = (h.0, added P xs x h.1 k)

ascend : {X : Type 0} (key : X → List ℕ) (xs : List X) (x : X) → Ascend key xs → may_follow key xs x ≡ true → Ascend key (xs ++ x ∷ [])
ascend key [] x h k = tt
ascend key (y ∷ []) x h k = (k, tt)
ascend key (y ∷ z ∷ xs) x h k = (h.0, ascend key (z ∷ xs) x h.1 k)

move_within : (x : Move) (n m : Node) → IsLineWithin (move_at x) → IsNodeWithin n → with_move x n ≡ Some m → IsNodeWithin m
move_within x (case_node i) m low h e = absurd (let bad : ⊥ = cc in bad)
move_within x (split_node i) m low h e = absurd (let bad : ⊥ = cc in bad)
move_within x (balance_node k s xs) m low h e = absurd (let bad : ⊥ = cc in bad)
move_within x (cover_node i d c xs) m low h e =
    let parts = when_true ((length x.sheets == d) && may_follow move_key xs x) (Some (cover_node i d c (xs ++ x ∷ []))) m e in
    let same : cover_node i d c (xs ++ x ∷ []) ≡ m = let k = parts.1 in cc in
    let tests = and_parts (length x.sheets == d) (may_follow move_key xs x) parts.0 in
    let own : IsMoveWithin d x = subst (λ n. IsMoveWithin n x) (eqb-true (length x.sheets) d tests.0) low.1 in
    let within : IsCoverWithin i d c (xs ++ x ∷ []) =
    record {
      simplex = h.simplex;
      some = h.some;
      few = h.few;
      corner = h.corner;
      moves = All-from_recursion (IsMoveWithin d) (xs ++ x ∷ []) (added (IsMoveWithin d) xs x (recursion_from_All (IsMoveWithin d) xs h.moves) own);
      ascending = ascend move_key xs x h.ascending tests.1;
    } in
    subst IsNodeWithin same within

multiplier_within : (x : Multiplier) (n m : Node) → IsMultiplierWithin x → IsNodeWithin n → with_multiplier x n ≡ Some m → IsNodeWithin m
multiplier_within x (case_node i) m low h e = absurd (let bad : ⊥ = cc in bad)
multiplier_within x (split_node i) m low h e = absurd (let bad : ⊥ = cc in bad)
multiplier_within x (cover_node i d c xs) m low h e = absurd (let bad : ⊥ = cc in bad)
multiplier_within x (balance_node k s xs) m low h e =
    let parts = when_true (may_follow multiplier_key xs x) (Some (balance_node k s (xs ++ x ∷ []))) m e in
    let same : balance_node k s (xs ++ x ∷ []) ≡ m = let f = parts.1 in cc in
    let within : IsBalanceWithin k s (xs ++ x ∷ []) =
    record {
      modulus = h.modulus;
      sum = h.sum;
      multipliers = All-from_recursion IsMultiplierWithin (xs ++ x ∷ []) (added IsMultiplierWithin xs x (recursion_from_All IsMultiplierWithin xs h.multipliers) low);
      ascending = ascend multiplier_key xs x h.ascending parts.0;
    } in
    subst IsNodeWithin same within

last_within : (change : Node → Option Node) → ((n m : Node) → IsNodeWithin n → change n ≡ Some m → IsNodeWithin m) → (nodes more : List Node) → AreWithin nodes → at_last change nodes ≡ Some more → AreWithin more
last_within change keeps [] more h e = absurd (let bad : ⊥ = cc in bad)
last_within change keeps (n ∷ []) more h e =
    let found = some_of (λ m. m ∷ []) (change n) more e in
    subst AreWithin found.2 (keeps n found.0 h.0 found.1, tt)
last_within change keeps (n ∷ m ∷ ns) more h e =
    let found = some_of (λ ms. n ∷ ms) (at_last change (m ∷ ns)) more e in
    subst AreWithin found.2 (h.0, last_within change keeps (m ∷ ns) found.0 h.1 found.1)

node_within : (nodes more : List Node) (n : Node) → AreWithin nodes → IsNodeWithin n → Some (nodes ++ n ∷ []) ≡ Some more → AreWithin more
node_within nodes more n h k e = let same : nodes ++ n ∷ [] ≡ more = cc in subst AreWithin same (added IsNodeWithin nodes n h k)

no_moves : (d : ℕ) → AllByRecursion (IsMoveWithin d) []
no_moves d = tt

line_within : (nodes more : List Node) (x : TextLine) → AreWithin nodes → IsLineWithin x → with_line nodes x ≡ Some more → AreWithin more
line_within nodes more (case_at i) h k e = node_within nodes more (case_node i) h k e
line_within nodes more (split_at i) h k e = node_within nodes more (split_node i) h k e
line_within nodes more (cover_at i d c) h k e =
    let within : IsCoverWithin i d c [] = record { simplex = k.0; some = k.1; few = k.2; corner = k.3; moves = All-from_recursion (IsMoveWithin d) [] (no_moves d); ascending = tt } in
    node_within nodes more (cover_node i d c []) h within e
line_within nodes more (move_at x) h k e = last_within (with_move x) (λ n m. move_within x n m k) nodes more h e
line_within nodes more (balance_at m s) h k e =
    let within : IsBalanceWithin m s [] = record { modulus = k.0; sum = k.1; multipliers = All-from_recursion IsMultiplierWithin [] tt; ascending = tt } in
    node_within nodes more (balance_node m s []) h within e
line_within nodes more (multiplier_at x) h k e = last_within (with_multiplier x) (λ n m. multiplier_within x n m k) nodes more h e

-- ---- one line after another

-- the lines that were added to nodes, their text, and the nodes with them
record IsText (nodes : List Node) (ls : List (List ℕ)) (all : List Node) : Type 0 where
  lines : List TextLine
  text : flat_map (λ l. l) ls ≡ flat_map line_text lines ++ line (codes "end") []
  more : lines_of_nodes all ≡ lines_of_nodes nodes ++ lines
  within : AreWithin all

at_end : (k : ℕ) (nodes all : List Node) (l : List ℕ) (ls : List (List ℕ)) → AreWithin nodes → l ≡ line (codes "end") [] → end_at k nodes ls ≡ Ok all → IsText nodes (l ∷ ls) all
at_end k nodes all l [] within is h =
    let same : nodes ≡ all = cc in
    subst (IsText nodes (l ∷ [])) same (record { lines = []; text = append-nil l ∙ is; more = sym (append-nil (lines_of_nodes nodes)); within = within })
at_end k nodes all l (x ∷ ls) within is h = absurd (let bad : ⊥ = cc in bad)

at_line : (nodes more all : List Node) (l : List ℕ) (ls : List (List ℕ)) (x : TextLine) → IsNext nodes l more x → IsText more ls all → IsText nodes (l ∷ ls) all
at_line nodes more all l ls x next rest =
    record {
      lines = x ∷ rest.lines;
      text = (λ i. next.0.0 i ++ rest.text i) ∙ sym (append_assoc (line_text x) (flat_map line_text rest.lines) (line (codes "end") []));
      more = rest.more ∙ ap (λ ls. ls ++ rest.lines) (line_more nodes more x next.1) ∙ append_assoc (lines_of_nodes nodes) (x ∷ []) rest.lines;
      within = rest.within;
    }

nodes_there : (ls : List (List ℕ)) (k : ℕ) (nodes all : List Node) → AreWithin nodes → nodes_from k nodes ls ≡ Ok all → IsText nodes ls all
nodes_there [] k nodes all within h = absurd (let bad : ⊥ = cc in bad)
nodes_there (l ∷ ls) k nodes all within h =
    by_test (same_text l (line (codes "end") [])) (next_in nodes l) refl refl (sym (first_is k nodes l ls) ∙ h) (λ more. nodes_there ls (suc k) more all)
  where
    by_test : (t : Bool) (o : Option (List Node)) → same_text l (line (codes "end") []) ≡ t → next_in nodes l ≡ o → cond t (end_at k nodes ls) (onto o k (λ ns. nodes_from (suc k) ns ls)) ≡ Ok all
        → ((more : List Node) → AreWithin more → nodes_from (suc k) more ls ≡ Ok all → IsText more ls all) → IsText nodes (l ∷ ls) all
    by_test true o t_is o_is h rest = at_end k nodes all l ls within (std.same_text l (line (codes "end") []) (sym t_is)) h
    by_test false None t_is o_is h rest = absurd (let bad : ⊥ = cc in bad)
    by_test false (Some more) t_is o_is h rest =
        let next = next_there nodes l more o_is in
        at_line nodes more all l ls next.0 next.1 (rest more (line_within nodes more next.0 within next.1.0.1 next.1.1) h)

-- ---- obstructions

pub read_written : (text : List ℕ) (o : Obstruction) → obstruction_of text ≡ Ok o → (obstruction_text o ≡ text) × IsInGrammar o
read_written text o h =
    let first = then_ok (fixed_at 1 (line (codes "wfcheck obstruction 1") []) (lines_of text)) _ o h in
    let second = then_ok (number_at 2 (codes "processes") first.0) _ o first.2 in
    let third = then_ok (number_at 3 (codes "simplices") second.0.1) _ o second.2 in
    let fourth = then_ok (nodes_from first_line [] third.0.1) _ o third.2 in
    let same : record { processes = second.0.0; simplices = third.0.0; nodes = fourth.0 } ≡ o = let k = fourth.2 in cc in
    let at1 = fixed_there 1 (line (codes "wfcheck obstruction 1") []) (lines_of text) first.0 first.1 in
    let at2 = number_found 2 (codes "processes") first.0 second.0 second.1 in
    let at3 = number_found 3 (codes "simplices") second.0.1 third.0 third.1 in
    let at4 = nodes_there third.0.1 first_line [] fourth.0 tt fourth.1 in
    let lines_are : lines_of text ≡ line (codes "wfcheck obstruction 1") [] ∷ line (codes "processes") (second.0.0 ∷ []) ∷ line (codes "simplices") (third.0.0 ∷ []) ∷ third.0.1 =
    at1 ∙ ap (λ ls. line (codes "wfcheck obstruction 1") [] ∷ ls) (at2.0 ∙ ap (λ ls. line (codes "processes") (second.0.0 ∷ []) ∷ ls) at3.0) in
    let nodes_are : flat_map (λ l. l) third.0.1 ≡ flat_map line_text (lines_of_nodes fourth.0) ++ line (codes "end") [] = at4.text ∙ ap (λ ls. flat_map line_text ls ++ line (codes "end") []) (sym at4.more) in
    subst (λ (o : Obstruction). (obstruction_text o ≡ text) × IsInGrammar o) same (
      sym (sym (joined text) ∙ ap (flat_map (λ l. l)) lines_are ∙ ap (λ xs. line (codes "wfcheck obstruction 1") [] ++ (line (codes "processes") (second.0.0 ∷ []) ++ (line (codes "simplices") (third.0.0 ∷ []) ++ xs))) nodes_are),
      record { processes = at2.1; simplices = at3.1; nodes = All-from_recursion IsNodeWithin fourth.0 at4.within },
    )
