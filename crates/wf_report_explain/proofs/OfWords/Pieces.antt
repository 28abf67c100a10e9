-- Texts that are put on a page piece by piece.
use Rattle.std.proofs.Common.{◌≡◌, ◌<◌, ◌≤◌, ◌==◌, ℕ, zero, suc, ◌+◌, ◌-◌, ◌/◌, ◌%◌, false, List, [], ◌∷◌, ◌++◌, flat_map, length, drop, get_or, Result, Ok, IsErr, codes, decimal, refl, sym, ap, ◌∙◌, subst, arith, append_assoc, append-nil}
use Rattle.std.specs.List.{range_with_len, slice_index_or}
use Rattle.std.proofs.Math.ListN.{drop_of_length-le}
use Rattle.std.proofs.lemmas.List.{drop_more}
use Rattle.wf_model.specs.Lists.{below, lists_of}
use Rattle.wf_model.specs.Word.{Word}
use Rattle.wf_model.specs.Simplex.{Simplex}
use Rattle.wf_base.specs.Streams.Seen.{Writing}
use Rattle.wf_base.specs.Streams.Texts.{PutsText, TookBeginning}
use Rattle.wf_base.specs.declared.streams.sink.WriteFault.{WriteFault}
use Rattle.wf_base.proofs.OfStreams.Lemmas.{IsPut, begun, went_on, stopped, last_put}
use Rattle.wf_report_explain.specs.Words.Listing.{before_process}
use Rattle.wf_report_explain.specs.Words.Table.{break_text}
use Rattle.wf_report_explain.specs.Words.Text.{block_text, others_text, participant_text, plain_names, word_text, words_text}
use Rattle.wf_report_explain.proofs.OfWords.ListsInWords.{rest_of}
use Rattle.wf_report_explain.proofs.OfWords.ExecutionPlaces.{AreTold, all_told, none_told, one_more_round, round_plain, to_come}

-- ---- two pieces

-- the first piece was put
pub first_put : (a b : Writing) (page page' text piece rest : List ℕ) → PutsText a page b page' piece (Ok tt) → text ≡ piece ++ rest → IsPut a page b page' text rest
first_put a b page page' text piece rest put is = went_on a a b page page page' text piece text rest (begun a page text) put is

-- it was not
pub first_failed : (a b : Writing) (page page' text piece rest : List ℕ) (result : Result (Unit {0}) WriteFault) → IsErr result → TookBeginning a b (page ++ piece) → text ≡ piece ++ rest → PutsText a page b page' text result
first_failed a b page page' text piece rest result failed beginning is = stopped a a b page page page' text piece text rest result failed (begun a page text) beginning is

-- a piece and then another
pub both_put : (a b c : Writing) (page page' page'' text piece rest : List ℕ) (result : Result (Unit {0}) WriteFault) → PutsText a page b page' piece (Ok tt) → text ≡ piece ++ rest → PutsText b page' c page'' rest result
    → PutsText a page c page'' text result
both_put a b c page page' page'' text piece rest result put is next = last_put a b c page page' page'' text rest rest result (first_put a b page page' text piece rest put is) next refl

-- a piece that is the same text
pub same_put : (a b : Writing) (page page' text text' : List ℕ) → text ≡ text' → PutsText a page b page' text (Ok tt) → PutsText a page b page' text' (Ok tt)
same_put a b page page' text text' same put = subst (λ t. PutsText a page b page' t (Ok tt)) same put

-- ---- what is left of a list

module _ {X : Type 0} (text : X → List ℕ) (end : List ℕ) where
  pub next_in : (xs : List X) (i : ℕ) (d : X) → i < length xs → flat_map text (drop i xs) ++ end ≡ text (get_or xs i d) ++ (flat_map text (drop (i + 1) xs) ++ end)
  next_in xs i d low =
      ap (λ ys. flat_map text ys ++ end) (drop_more xs i d low) ∙ append_assoc (text (get_or xs i d)) (flat_map text (drop (i + 1) xs)) end

  pub none_in : (xs : List X) (i : ℕ) → length xs ≤ i → flat_map text (drop i xs) ++ end ≡ end
  none_in xs i high = ap (λ ys. flat_map text ys ++ end) (drop_of_length-le xs high)

-- the numbers from n on, below m
abbrev pub numbers_left : ℕ → ℕ → List ℕ
numbers_left n m = range_with_len n (m - n)

pub all_numbers : (m : ℕ) → numbers_left 0 m ≡ below m
all_numbers m = let same : m - 0 ≡ m = omega arith in ap (range_with_len 0) same

pub next_number : (text : ℕ → List ℕ) (n m : ℕ) → n < m → flat_map text (numbers_left n m) ≡ text n ++ flat_map text (numbers_left (n + 1) m)
next_number text n m low = let more : m - n ≡ suc (m - (n + 1)) = omega (arith, low) in ap (λ k. flat_map text (range_with_len n k)) more

pub no_number : (text : ℕ → List ℕ) (n m : ℕ) → m ≤ n → flat_map text (numbers_left n m) ≡ []
no_number text n m high = let none : m - n ≡ 0 = omega (arith, high) in ap (λ k. flat_map text (range_with_len n k)) none

-- ---- the processes of a block

-- what is to come of a block once so many of its processes are put
abbrev pub block_left : ℕ → Simplex → List ℕ
block_left place ps = rest_of (participant_text false false) (codes " ") (codes " ") place ps ++ codes "}"

pub block_opened : (ps : Simplex) → (length ps == 0) ≡ false → block_text (participant_text false false) ps ≡ codes "{" ++ block_left 0 ps
block_opened [] some = cc
block_opened (p ∷ ps) some = refl

another_process : (p : ℕ × ℕ) (ps : Simplex) → others_text (participant_text false false) (codes " ") (codes " ") (p ∷ ps) ≡ codes " " ++ (participant_text false false p ++ others_text (participant_text false false) (codes " ") (codes " ") ps)
another_process p [] = ap (λ x. codes " " ++ x) (sym (append-nil (participant_text false false p)))
another_process p (q ∷ ps) = refl

one_process : (place : ℕ) (p : ℕ × ℕ) (ps : Simplex) → block_left place (p ∷ ps) ≡ (before_process place ++ decimal p.0) ++ block_left (suc place) ps
one_process zero p ps = append_assoc (participant_text false false p) (others_text (participant_text false false) (codes " ") (codes " ") ps) (codes "}")
one_process (suc place) p ps =
    let rest = others_text (participant_text false false) (codes " ") (codes " ") ps in
    ap (λ x. x ++ codes "}") (another_process p ps)
    ∙ append_assoc (codes " " ++ participant_text false false p) rest (codes "}")

pub next_process : (ps : Simplex) (place : ℕ) → place < length ps → block_left place (drop place ps) ≡ (before_process place ++ decimal (get_or ps place (0, 0)).0) ++ block_left (place + 1) (drop (place + 1) ps)
next_process ps place low =
    let later : suc place ≡ place + 1 = omega arith in
    let p = get_or ps place (0, 0) in
    ap (block_left place) (drop_more ps place (0, 0) low)
    ∙ one_process place p (drop (place + 1) ps)
    ∙ ap (λ n. (before_process place ++ decimal p.0) ++ block_left n (drop (place + 1) ps)) later

pub block_closed : (ps : Simplex) (place : ℕ) → length ps ≤ place → block_left place (drop place ps) ≡ codes "}"
block_closed ps zero high = ap (block_left 0) (drop_of_length-le ps high)
block_closed ps (suc place) high = ap (block_left (suc place)) (drop_of_length-le ps high)

-- ---- the rounds of an execution

-- what is to come of an execution at a place among the lists of words for the rounds that are left
abbrev pub rounds_left : Simplex → List Word → ℕ → ℕ → ℕ → List ℕ
rounds_left cs ws rounds round place = to_come (plain_names cs) round (slice_index_or (lists_of ws (rounds - round)) place [])

-- how far a put execution has come
pub record IsPutSoFar (a b : Writing) (page page' text : List ℕ) (cs : Simplex) (ws : List Word) (rounds round count place : ℕ) : Type 0 where
  pub at : AreTold (plain_names cs) ws rounds round count place [] (rounds_left cs ws rounds round place)
  pub put : IsPut a page b page' text (rounds_left cs ws rounds round place)

pub no_round_put : (a : Writing) (page : List ℕ) (cs : Simplex) (ws : List Word) (rounds count place : ℕ) → 0 < rounds → count ≡ length (lists_of ws rounds) → place < count
    → IsPutSoFar a a page page (words_text (plain_names cs) (slice_index_or (lists_of ws rounds) place [])) cs ws rounds 0 count place
no_round_put a page cs ws rounds count place some is low =
    let text = words_text (plain_names cs) (slice_index_or (lists_of ws rounds) place []) in
    let n = none_told (plain_names cs) ws rounds count place [] some is low in
    record {
      at = record { count_is = n.count_is; low = n.low; told = refl };
      put = subst (IsPut a page a page text) (sym n.told) (begun a page text);
    }

-- the text of the next round, and what is to come after it
pub round_parted : (cs : Simplex) (ws : List Word) (rounds round count place : ℕ) (w : Word) → AreTold (plain_names cs) ws rounds round count place [] (rounds_left cs ws rounds round place) → round < rounds
    → w ≡ slice_index_or ws (place / (count / length ws)) []
    → rounds_left cs ws rounds round place ≡ (break_text round ++ word_text (participant_text false false) cs w) ++ rounds_left cs ws rounds (round + 1) (place % (count / length ws))
round_parted cs ws rounds round count place w at low is =
    sym ((one_more_round (plain_names cs) ws rounds round count place [] (break_text round) (break_text round ++ word_text (participant_text false false) cs w) (rounds_left cs ws rounds round place) w at low refl (ap (λ xs. break_text round ++ xs) (round_plain cs round w)) is).told)

pub one_round_put : (a b c : Writing) (page page' page'' text : List ℕ) (cs : Simplex) (ws : List Word) (rounds round count place : ℕ) (w : Word) → IsPutSoFar a b page page' text cs ws rounds round count place → round < rounds
    → w ≡ slice_index_or ws (place / (count / length ws)) [] → PutsText b page' c page'' (break_text round ++ word_text (participant_text false false) cs w) (Ok tt)
    → IsPutSoFar a c page page'' text cs ws rounds (round + 1) (count / length ws) (place % (count / length ws))
one_round_put a b c page page' page'' text cs ws rounds round count place w so_far low is put =
    let n = one_more_round (plain_names cs) ws rounds round count place [] (break_text round) (break_text round ++ word_text (participant_text false false) cs w) (rounds_left cs ws rounds round place) w so_far.at low refl (ap (λ xs. break_text round ++ xs) (round_plain cs round w)) is in
    record {
      at = record { count_is = n.count_is; low = n.low; told = refl };
      put = went_on a b c page page' page'' text (break_text round ++ word_text (participant_text false false) cs w) _ _ so_far.put put (sym n.told);
    }

pub all_rounds_put : (cs : Simplex) (ws : List Word) (rounds round count place : ℕ) → AreTold (plain_names cs) ws rounds round count place [] (rounds_left cs ws rounds round place) → rounds ≤ round → rounds_left cs ws rounds round place ≡ []
all_rounds_put cs ws rounds round count place at high = sym (all_told (plain_names cs) ws rounds round count place [] _ at high)

-- ---- a whole text

-- an empty page
pub started : (a : Writing) (empty text : List ℕ) → empty ≡ [] → IsPut a [] a empty text text
started a empty text none = subst (λ p. IsPut a [] a p text text) (sym none) (begun a [] text)
