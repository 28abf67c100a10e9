-- The lines of nodes, one after another.
use Rattle.std.proofs.Common.{◌≡◌, ℕ, suc, ◌+◌, ◌==◌, ◌++◌, List, [], ◌∷◌, length, Bool, true, false, cond, Option, Some, None, Ok, Err, codes, ⊎_elim, refl, ◌∙◌, ap, arith, eqb-true}
use Rattle.std.specs.Option.{option_and_then}
use Rattle.wf_model.specs.Report.{Reading, line, lines_of, same_text}
use Rattle.wf_tree_model.specs.Trees.{Node}
use Rattle.wf_report.specs.Reading.{lacks}
use Rattle.wf_report.specs.Steps.{words}
use Rattle.wf_report.proofs.Lemmas.{last_piece, lines_cut, no_words, not_ended, one_word, same_ended, some_line, words_cut, words_ended}
use Rattle.wf_tree_text.specs.Text.{TextLine, end_at, line_of_numbers, line_of_words, nodes_from, numbers_of_words, with_line}
use Rattle.wf_tree_text.specs.Steps.{next_in}

-- the lines behind one, by the nodes with it
abbrev pub onto : Option (List Node) → ℕ → (List Node → Reading (List Node)) → Reading (List Node)
onto None k rest = Err k
onto (Some nodes) k rest = rest nodes

-- the first line
pub first_is : (k : ℕ) (nodes : List Node) (l : List ℕ) (ls : List (List ℕ))
    → nodes_from k nodes (l ∷ ls) ≡ cond (same_text l (line (codes "end") [])) (end_at k nodes ls) (onto (next_in nodes l) k (λ ns. nodes_from (suc k) ns ls))
first_is k nodes l ls = by_test (same_text l (line (codes "end") [])) (next_in nodes l)
  where
    by_test : (t : Bool) (o : Option (List Node)) → (elim t [
      | true ↦ end_at k nodes ls
      | false ↦ elim o [ None ↦ Err k | Some more ↦ nodes_from (suc k) more ls ]
    ]) ≡ cond t (end_at k nodes ls) (onto o k (λ ns. nodes_from (suc k) ns ls))
    by_test true o = refl
    by_test false None = refl
    by_test false (Some more) = refl

-- ---- the next line of a text

pub cut_off : (k : ℕ) (nodes : List Node) (text : List ℕ) → lacks 10 text ≡ true → nodes_from k nodes (lines_of text) ≡ Err k
cut_off k nodes text h =
    ⊎_elim
    (λ (e : lines_of text ≡ []). ap (nodes_from k nodes) e)
    (λ (e : lines_of text ≡ text ∷ []).
    ap (nodes_from k nodes) e ∙ first_is k nodes text []
    ∙ (λ i. cond (not_ended text (codes "end") h i) (end_at k nodes []) (onto (option_and_then (with_line nodes) (option_and_then line_of_words (no_words text h i))) k (λ ns. nodes_from (suc k) ns []))))
    (last_piece text h)

some_lines : (b : ℕ) (text : List ℕ) → lines_of (b ∷ text) ≡ [] → ⊥
some_lines b text e = some_line (b == 10) b (lines_of text) e

-- something comes after the end, or nothing
pub not_last : (k : ℕ) (nodes : List Node) (rest : List ℕ) → (length rest == 0) ≡ false → end_at k nodes (lines_of rest) ≡ Err (suc k)
not_last k nodes [] h = absurd (let bad : ⊥ = cc in bad)
not_last k nodes (b ∷ rest) h = by_lines (lines_of (b ∷ rest)) (some_lines b rest)
  where
    by_lines : (ls : List (List ℕ)) → (ls ≡ [] → ⊥) → end_at k nodes ls ≡ Err (suc k)
    by_lines [] h = absurd (h refl)
    by_lines (l ∷ ls) h = refl

pub is_last : (k : ℕ) (nodes : List Node) (rest : List ℕ) → (length rest == 0) ≡ true → end_at k nodes (lines_of rest) ≡ Ok nodes
is_last k nodes [] h = refl
is_last k nodes (b ∷ rest) h = absurd (let same : suc (length rest) ≡ 0 = eqb-true (suc (length rest)) 0 h in omega (arith, same))

-- what a loop over lines knows, and what follows from its next line
module _ (nodes : List Node) (k : ℕ) (text found rest : List ℕ) (is : text ≡ found ++ 10 ∷ rest) (h : lacks 10 found ≡ true) where
  line_is : nodes_from k nodes (lines_of text) ≡ cond (same_text found (codes "end")) (end_at k nodes (lines_of rest)) (onto (next_in nodes (found ++ 10 ∷ [])) k (λ ns. nodes_from (suc k) ns (lines_of rest)))
  line_is =
      ap (λ t. nodes_from k nodes (lines_of t)) is ∙ ap (nodes_from k nodes) (lines_cut found rest h) ∙ first_is k nodes (found ++ 10 ∷ []) (lines_of rest)
      ∙ ap (λ t. cond t (end_at k nodes (lines_of rest)) (onto (next_in nodes (found ++ 10 ∷ [])) k (λ ns. nodes_from (suc k) ns (lines_of rest)))) (same_ended found (codes "end"))

  pub at_end : same_text found (codes "end") ≡ true → nodes_from k nodes (lines_of text) ≡ end_at k nodes (lines_of rest)
  at_end e = line_is ∙ ap (λ t. cond t (end_at k nodes (lines_of rest)) (onto (next_in nodes (found ++ 10 ∷ [])) k (λ ns. nodes_from (suc k) ns (lines_of rest)))) e

  pub at_bad : same_text found (codes "end") ≡ false → next_in nodes (found ++ 10 ∷ []) ≡ None → nodes_from k nodes (lines_of text) ≡ Err k
  at_bad e bad = line_is ∙ (λ i. cond (e i) (end_at k nodes (lines_of rest)) (onto (bad i) k (λ ns. nodes_from (suc k) ns (lines_of rest))))

  pub at_line : (more : List Node) → same_text found (codes "end") ≡ false → next_in nodes (found ++ 10 ∷ []) ≡ Some more → nodes_from k nodes (lines_of text) ≡ nodes_from (k + 1) more (lines_of rest)
  at_line more e good =
      let next : suc k ≡ k + 1 = omega arith in
      line_is ∙ (λ i. cond (e i) (end_at k nodes (lines_of rest)) (onto (good i) k (λ ns. nodes_from (suc k) ns (lines_of rest))))
      ∙ ap (λ n. nodes_from n more (lines_of rest)) next

-- ---- the words of a line

next_is : (nodes : List Node) (l : List ℕ) → lacks 10 l ≡ true → next_in nodes (l ++ 10 ∷ []) ≡ option_and_then (with_line nodes) (line_of_words (words l))
next_is nodes l h = ap (λ o. option_and_then (with_line nodes) (option_and_then line_of_words o)) (words_ended l h)

-- a name without numbers is no line
abbrev no_line : Option TextLine
no_line = None

no_numbers : (name : List ℕ) → line_of_numbers name [] ≡ None
no_numbers name =
    by_names (same_text name (codes "m")) (same_text name (codes "p")) (same_text name (codes "case")) (same_text name (codes "split")) (same_text name (codes "cover")) (same_text name (codes "balance"))
  where
    by_names : (m p a b d e : Bool) → cond m no_line (cond p no_line (cond a no_line (cond b no_line (cond d no_line (cond e no_line no_line))))) ≡ no_line
    by_names true p a b d e = refl
    by_names false true a b d e = refl
    by_names false false true b d e = refl
    by_names false false false true d e = refl
    by_names false false false false true e = refl
    by_names false false false false false true = refl
    by_names false false false false false false = refl

pub name_alone : (nodes : List Node) (l : List ℕ) → lacks 10 l ≡ true → lacks 32 l ≡ true → next_in nodes (l ++ 10 ∷ []) ≡ None
name_alone nodes l h k =
    next_is nodes l h ∙ ap (λ ws. option_and_then (with_line nodes) (line_of_words ws)) (one_word l k)
    ∙ ap (option_and_then (with_line nodes)) (no_numbers l)

pub name_and_numbers : (nodes : List Node) (l name rest : List ℕ) → lacks 10 l ≡ true → l ≡ name ++ 32 ∷ rest → lacks 32 name ≡ true
    → next_in nodes (l ++ 10 ∷ []) ≡ option_and_then (with_line nodes) (option_and_then (line_of_numbers name) (numbers_of_words (words rest)))
name_and_numbers nodes l name rest h is k =
    next_is nodes l h ∙ ap (λ ws. option_and_then (with_line nodes) (line_of_words ws)) (ap words is ∙ words_cut name rest k)

-- a line by its name and its numbers
pub next_by : (nodes : List Node) (l name rest ns : List ℕ) → lacks 10 l ≡ true → l ≡ name ++ 32 ∷ rest → lacks 32 name ≡ true → numbers_of_words (words rest) ≡ Some ns
    → next_in nodes (l ++ 10 ∷ []) ≡ option_and_then (with_line nodes) (line_of_numbers name ns)
next_by nodes l name rest ns h is k e = name_and_numbers nodes l name rest h is k ∙ ap (λ o. option_and_then (with_line nodes) (option_and_then (line_of_numbers name) o)) e
