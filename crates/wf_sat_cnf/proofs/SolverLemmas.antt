-- The lines and words of a text.
use Rattle.std.proofs.Common.{◌≡◌, ℕ, zero, suc, ◌+◌, ◌-◌, ◌*◌, ◌<◌, ◌≤◌, ◌==◌, ◌&&◌, nat_le, nat_lt, not, Bool, true, false, cond, List, [], ◌∷◌, ◌++◌, filter, length, take, drop, get_or, slice_index, Option, Some, None, MatchOption, Bor, length-append, refl, sym, ap, ◌∙◌, arith}
use Rattle.std.specs.List.{list_all, slice_split}
use Rattle.std.proofs.lemmas.List.Splits.{length-slice_split}
use Rattle.std.proofs.lemmas.List.Sums.{count_by-le-length}
use Rattle.std.proofs.lemmas.Bool.{lt-leb, lt-ltb, eq-eqb, ne_eqb}
use Rattle.std.proofs.lemmas.List.{drop_more, length-drop, take-append-drop, take_all}
use Rattle.wf_sat_text.specs.Clauses.Formula.{pos, neg}
use Rattle.wf_sat_formula.specs.SolverText.{lines, words, is_blank, is_digit, is_numeral, literal_of, literal_on, number_of}
use Rattle.wf_sat_cnf.specs.Reading.{IsFirstLine, begins_blank, has_no_blank, has_no_feed, number_with}

-- ---- tests

not_true : (b : Bool) → not b ≡ true → b ≡ false
not_true true e = sym e
not_true false e = refl

false_is_not_true : false ≡ true → ⊥
false_is_not_true e = let n : zero ≡ 1 = ap (λ b. cond b 1 0) e in let none : ⊥ = omega (arith, n) in none

both_left : (a b : Bool) → (a && b) ≡ true → a ≡ true
both_left true b e = refl
both_left false b e = e

both_right : (a b : Bool) → (a && b) ≡ true → b ≡ true
both_right true b e = e
both_right false b e = absurd (false_is_not_true e)

-- ---- lines

pub first_line : (line rest : List ℕ) → has_no_feed line ≡ true → lines (line ++ 10 ∷ rest) ≡ line ∷ lines rest
first_line [] rest h = refl
first_line (b ∷ line) rest h =
    let other : (b == 10) ≡ false = not_true (b == 10) (both_left (not (b == 10)) (has_no_feed line) h) in
    let later = first_line line rest (both_right (not (b == 10)) (has_no_feed line) h) in
    rw other (rw later refl)

pub last_line : (line : List ℕ) → has_no_feed line ≡ true → lines line ≡ line ∷ []
last_line [] h = refl
last_line (b ∷ line) h =
    let other : (b == 10) ≡ false = not_true (b == 10) (both_left (not (b == 10)) (has_no_feed line) h) in
    let later = last_line line (both_right (not (b == 10)) (has_no_feed line) h) in
    rw other (rw later refl)

pub few_lines : (text : List ℕ) → length (lines text) ≤ length text + 1
few_lines text = omega (arith, length-slice_split (λ b. b == 10) text, count_by-le-length (λ b. b == 10) text)

-- ---- words

-- what is left to split behind a word
abbrev behind : List ℕ → List (List ℕ)
behind [] = []
behind (b ∷ bs) = slice_split is_blank bs

split_at_word : (word rest : List ℕ) → has_no_blank word ≡ true → begins_blank rest ≡ true → slice_split is_blank (word ++ rest) ≡ word ∷ behind rest
split_at_word [] [] h e = refl
split_at_word [] (b ∷ rest) h e = rw e refl
split_at_word (c ∷ word) rest h e =
    let other : is_blank c ≡ false = not_true (is_blank c) (both_left (not (is_blank c)) (has_no_blank word) h) in
    let later = split_at_word word rest (both_right (not (is_blank c)) (has_no_blank word) h) e in
    rw other (rw later refl)

words_behind : (rest : List ℕ) → begins_blank rest ≡ true → filter (λ word. nat_lt 0 (length word)) (behind rest) ≡ words rest
words_behind [] e = refl
words_behind (b ∷ rest) e = rw e refl

pub first_word : (c : ℕ) (word rest : List ℕ) → has_no_blank (c ∷ word) ≡ true → begins_blank rest ≡ true → words ((c ∷ word) ++ rest) ≡ (c ∷ word) ∷ words rest
first_word c word rest h e =
    let some : nat_lt 0 (suc (length word)) ≡ true = lt-ltb 0 (suc (length word)) (omega arith) in
    let kept : filter (λ w. nat_lt 0 (length w)) ((c ∷ word) ∷ behind rest) ≡ (c ∷ word) ∷ words rest = rw some (ap (λ ws. (c ∷ word) ∷ ws) (words_behind rest e)) in
    ap (filter (λ w. nat_lt 0 (length w))) (split_at_word (c ∷ word) rest h e) ∙ kept

pub split_first : (n : ℕ) (text : List ℕ) → 0 < length text → is_blank (slice_index text 0) ≡ false → has_no_blank (take n text) ≡ true → begins_blank (drop n text) ≡ true
    → (words text ≡ take n text ∷ words (drop n text)) × (length (drop n text) < length text)
split_first n [] some first h e = absurd (let none : ⊥ = omega (arith, some) in none)
split_first zero (c ∷ cs) some first h e = absurd (false_is_not_true (sym first ∙ e))
split_first (suc n) (c ∷ cs) some first h e =
    let shorter = length-drop n cs in (
      ap words (sym (ap (λ bs. c ∷ bs) (take-append-drop n cs))) ∙ first_word c (take n cs) (drop n cs) h e,
      omega (arith, shorter),
    )

pub rest_of : (n : ℕ) (text : List ℕ) → take (length text - n) (drop n text) ≡ drop n text
rest_of n text = take_all (length text - n) (drop n text) (let short = length-drop n text in omega (arith, short))

-- ---- pieces

pub line_cut : (found : Option (Bor (List ℕ) × Bor (List ℕ))) (text : List ℕ)
    → MatchOption found (has_no_feed text ≡ true) (λ parts. (text ≡ parts.0.now ++ 10 ∷ parts.1.now) × (has_no_feed parts.0.now ≡ true))
    → MatchOption found (lines text ≡ text ∷ []) (λ parts. IsFirstLine parts.0.now parts.1.now text)
line_cut None text h = last_line text h
line_cut (Some parts) text h =
    let long : length text ≡ length parts.0.now + suc (length parts.1.now) = ap length h.0 ∙ length-append parts.0.now (10 ∷ parts.1.now) in
    (ap lines h.0 ∙ first_line parts.0.now parts.1.now h.1, omega (arith, long))

-- ---- numbers

pub number_grows : (n : ℕ) (ds : List ℕ) → n ≤ number_with n ds
number_grows n [] = omega arith
number_grows n (d ∷ ds) =
    let rest = number_grows (10 * n + (d - 48)) ds in
    omega (arith, rest)

pub too_great : (most n i : ℕ) (digits : List ℕ) → number_with n (drop i digits) ≡ number_of digits → i < length digits → most < 10 * n + (get_or digits i 0 - 48)
    → None ≡ cond (nat_le (number_of digits) most) (Some (number_of digits)) None
too_great most n i digits so_far low more =
    let m = 10 * n + (get_or digits i 0 - 48) in
    let is : number_of digits ≡ number_with m (drop (i + 1) digits) = sym so_far ∙ ap (number_with n) (drop_more digits i 0 low) in
    let grown = number_grows m (drop (i + 1) digits) in
    let fails : nat_le (number_of digits) most ≡ false = lt-leb (number_of digits) most (omega (arith, is, grown, more)) in
    ap (λ b. cond b (Some (number_of digits)) None) (sym fails)

pub is_numeral_of : (word : List ℕ) → (length word == 0) ≡ false → (slice_index word 0 ≡ 48 → ⊥) → list_all is_digit word ≡ is_numeral word
is_numeral_of [] some first = absurd (false_is_not_true (sym some))
is_numeral_of (c ∷ cs) some first = let other : (c == 48) ≡ false = ne_eqb c 48 first in rw other refl

-- ---- literals

pub with_minus : (variables line : ℕ) (word digits : List ℕ) → (length word == 0) ≡ false → slice_index word 0 ≡ 45 → digits ≡ drop 1 word
    → literal_on variables line neg digits ≡ literal_of variables line word
with_minus variables line [] digits some first is = absurd (false_is_not_true (sym some))
with_minus variables line (c ∷ cs) digits some first is = let minus : (c == 45) ≡ true = eq-eqb c 45 first in rw minus (ap (literal_on variables line neg) is)

pub with_no_minus : (variables line : ℕ) (word : List ℕ) → (length word == 0) ≡ false → (slice_index word 0 ≡ 45 → ⊥)
    → literal_on variables line pos word ≡ literal_of variables line word
with_no_minus variables line [] some first = absurd (false_is_not_true (sym some))
with_no_minus variables line (c ∷ cs) some first = let other : (c == 45) ≡ false = ne_eqb c 45 first in rw other refl
