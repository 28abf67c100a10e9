-- Lines and words of a text, by the pieces that it is cut into.
use Rattle.std.proofs.Common.{◌≡◌, ◌⊎◌, inl, inr, ⊎_elim, ℕ, ◌+◌, ◌==◌, ◌&&◌, ◌||◌, ◌-◌, ◌*◌, nat_le, fold, eqb-true, List, [], ◌∷◌, ◌++◌, length, Bool, true, false, cond, not, Option, Some, None, option_map, if◌then◌else◌, Ok, Err, refl, sym, ◌∙◌, ap}
use Rattle.std.specs.List.{list_all}
use Rattle.std.proofs.Math.Bool.{and-false}
use Rattle.wf_model.specs.Limits.{most_number}
use Rattle.wf_model.specs.Report.{Reading, fixed_at, line, lines_of, number_at, number_of_line, onto_first, same_text, words_of, number_upto}
use Rattle.wf_report.specs.Reading.{lacks}
use Rattle.wf_report.specs.Numbers.{is_digit}
use Rattle.wf_report.specs.Steps.{words}
use Rattle.std.proofs.lemmas.Bool.{and_parts}

pub not_false : (b : Bool) → not b ≡ false → b ≡ true
not_false true h = refl
not_false false h = absurd (let bad : ⊥ = cc in bad)

pub not_true : (b : Bool) → not b ≡ true → b ≡ false
not_true true h = absurd (let bad : ⊥ = cc in bad)
not_true false h = refl

-- ---- lines

-- the first line, and the lines of what stands behind it
pub lines_cut : (front rest : List ℕ) → lacks 10 front ≡ true → lines_of (front ++ 10 ∷ rest) ≡ (front ++ 10 ∷ []) ∷ lines_of rest
lines_cut [] rest h = refl
lines_cut (b ∷ front) rest h =
    let parts = and_parts (not (b == 10)) (lacks 10 front) h in
    ap (λ t. cond t ((b ∷ []) ∷ lines_of (front ++ 10 ∷ rest)) (onto_first b (lines_of (front ++ 10 ∷ rest)))) (not_true (b == 10) parts.0)
    ∙ ap (onto_first b) (lines_cut front rest parts.1)

pub some_line : (t : Bool) (c : ℕ) (ls : List (List ℕ)) → cond t ((c ∷ []) ∷ ls) (onto_first c ls) ≡ [] → ⊥
some_line true c ls e = cc
some_line false c [] e = cc
some_line false c (l ∷ ls) e = cc

-- a text without a line feed is one line, or none
pub last_piece : (text : List ℕ) → lacks 10 text ≡ true → (lines_of text ≡ []) ⊎ (lines_of text ≡ text ∷ [])
last_piece [] h = inl refl
last_piece (b ∷ text) h =
    let parts = and_parts (not (b == 10)) (lacks 10 text) h in
    let first : lines_of (b ∷ text) ≡ onto_first b (lines_of text) = ap (λ t. cond t ((b ∷ []) ∷ lines_of text) (onto_first b (lines_of text))) (not_true (b == 10) parts.0) in
    inr (first ∙ by_rest text (last_piece text parts.1))
  where
    by_rest : (text : List ℕ) → (lines_of text ≡ []) ⊎ (lines_of text ≡ text ∷ []) → onto_first b (lines_of text) ≡ (b ∷ text) ∷ []
    by_rest [] h = refl
    by_rest (c ∷ text) (inl e) = absurd (some_line (c == 10) c (lines_of text) e)
    by_rest (c ∷ text) (inr e) = ap (onto_first b) e

-- ---- ends of lines

pub same_ended : (a b : List ℕ) → same_text (a ++ 10 ∷ []) (b ++ 10 ∷ []) ≡ same_text a b
same_ended [] [] = refl
same_ended [] (y ∷ []) = and-false (10 == y)
same_ended [] (y ∷ z ∷ b) = and-false (10 == y)
same_ended (x ∷ []) [] = and-false (x == 10)
same_ended (x ∷ z ∷ a) [] = and-false (x == 10)
same_ended (x ∷ a) (y ∷ b) = ap (λ t. (x == y) && t) (same_ended a b)

-- a line without its line feed is no line that has one
pub not_ended : (a b : List ℕ) → lacks 10 a ≡ true → same_text a (b ++ 10 ∷ []) ≡ false
not_ended [] [] h = refl
not_ended [] (y ∷ b) h = refl
not_ended (x ∷ a) [] h = ap (λ t. t && same_text a []) (not_true (x == 10) (and_parts (not (x == 10)) (lacks 10 a) h).0)
not_ended (x ∷ a) (y ∷ b) h = ap (λ t. (x == y) && t) (not_ended a b (and_parts (not (x == 10)) (lacks 10 a) h).1) ∙ and-false (x == y)

-- and it has no words
pub no_words : (a : List ℕ) → lacks 10 a ≡ true → words_of a ≡ None
no_words [] h = refl
no_words (x ∷ a) h =
    let parts = and_parts (not (x == 10)) (lacks 10 a) h in
    at_test (x == 10) (x == 32) (words_of a) (not_true (x == 10) parts.0) (no_words a parts.1)
  where
    at_test : (s t : Bool) (o : Option (List (List ℕ))) → s ≡ false → o ≡ None
        → cond s (elim a [ [] ↦ Some ([] ∷ []) | c ∷ cs ↦ None ]) (cond t (option_map (λ ws. [] ∷ ws) o) (option_map (onto_first x) o)) ≡ None
    at_test true t o e f = absurd (let bad : ⊥ = cc in bad)
    at_test false true o e f = ap (option_map (λ ws. [] ∷ ws)) f
    at_test false false o e f = ap (option_map (onto_first x)) f

-- the words of a line
pub words_ended : (a : List ℕ) → lacks 10 a ≡ true → words_of (a ++ 10 ∷ []) ≡ Some (words a)
words_ended [] h = refl
words_ended (x ∷ a) h =
    let parts = and_parts (not (x == 10)) (lacks 10 a) h in
    at_test (x == 10) (x == 32) (words_of (a ++ 10 ∷ [])) (not_true (x == 10) parts.0) (words_ended a parts.1)
  where
    at_test : (s t : Bool) (o : Option (List (List ℕ))) → s ≡ false → o ≡ Some (words a)
        → cond s (elim (a ++ 10 ∷ []) [ [] ↦ Some ([] ∷ []) | c ∷ cs ↦ None ]) (cond t (option_map (λ ws. [] ∷ ws) o) (option_map (onto_first x) o)) ≡ Some (cond t ([] ∷ words a) (onto_first x (words a)))
    at_test true t o e f = absurd (let bad : ⊥ = cc in bad)
    at_test false true o e f = ap (option_map (λ ws. [] ∷ ws)) f
    at_test false false o e f = ap (option_map (onto_first x)) f

pub words_cut : (front rest : List ℕ) → lacks 32 front ≡ true → words (front ++ 32 ∷ rest) ≡ front ∷ words rest
words_cut [] rest h = refl
words_cut (b ∷ front) rest h =
    let parts = and_parts (not (b == 32)) (lacks 32 front) h in
    ap (λ t. cond t ([] ∷ words (front ++ 32 ∷ rest)) (onto_first b (words (front ++ 32 ∷ rest)))) (not_true (b == 32) parts.0)
    ∙ ap (onto_first b) (words_cut front rest parts.1)

pub one_word : (word : List ℕ) → lacks 32 word ≡ true → words word ≡ word ∷ []
one_word [] h = refl
one_word (b ∷ word) h =
    let parts = and_parts (not (b == 32)) (lacks 32 word) h in
    ap (λ t. cond t ([] ∷ words word) (onto_first b (words word))) (not_true (b == 32) parts.0) ∙ ap (onto_first b) (one_word word parts.1)

-- ---- the first line of a text

pub no_fixed : (k : ℕ) (wanted text : List ℕ) → lacks 10 text ≡ true → fixed_at k (wanted ++ 10 ∷ []) (lines_of text) ≡ Err k
no_fixed k wanted text h =
    ⊎_elim
    (λ (e : lines_of text ≡ []). ap (fixed_at k (wanted ++ 10 ∷ [])) e)
    (λ (e : lines_of text ≡ text ∷ []). ap (fixed_at k (wanted ++ 10 ∷ [])) e ∙ ap (λ t. cond t (Ok []) (Err k)) (not_ended text wanted h))
    (last_piece text h)

pub fixed_is : (k : ℕ) (wanted found rest text : List ℕ) → text ≡ found ++ 10 ∷ rest → lacks 10 found ≡ true → fixed_at k (wanted ++ 10 ∷ []) (lines_of text) ≡ cond (same_text found wanted) (Ok (lines_of rest)) (Err k)
fixed_is k wanted found rest text is h =
    ap (λ t. fixed_at k (wanted ++ 10 ∷ []) (lines_of t)) is ∙ ap (fixed_at k (wanted ++ 10 ∷ [])) (lines_cut found rest h)
    ∙ ap (λ t. cond t (Ok (lines_of rest)) (Err k)) (same_ended found wanted)

-- ---- numbers

-- the number of a line, by its words
abbrev pub number_by : List ℕ → Option (List (List ℕ)) → Option ℕ
number_by name None = None
number_by name (Some []) = None
number_by name (Some (w ∷ [])) = None
number_by name (Some (w ∷ n ∷ [])) = cond (same_text w name) (number_upto most_number n) None
number_by name (Some (w ∷ n ∷ x ∷ more)) = None

pub number_is : (name l : List ℕ) → number_of_line name l ≡ number_by name (words_of l)
number_is name l = by_words (words_of l)
  where
    by_words : (o : Option (List (List ℕ))) → (elim o [
      | None ↦ None
      | Some [] ↦ None
      | Some (w ∷ []) ↦ None
      | Some (w ∷ n ∷ []) ↦ if same_text w name then number_upto most_number n else None
      | Some (w ∷ n ∷ x ∷ more) ↦ None
    ]) ≡ number_by name o
    by_words None = refl
    by_words (Some []) = refl
    by_words (Some (w ∷ [])) = refl
    by_words (Some (w ∷ n ∷ [])) = refl
    by_words (Some (w ∷ n ∷ x ∷ more)) = refl

-- words before and behind a space
pub some_word : (text : List ℕ) → (w : List ℕ) × (ws : List (List ℕ)) × (words text ≡ w ∷ ws)
some_word [] = ([], [], refl)
some_word (b ∷ text) =
    let rest = some_word text in
    by_test (b == 32) rest.0 rest.1 (words text) rest.2
  where
    by_test : (t : Bool) (w : List ℕ) (ws vs : List (List ℕ)) → vs ≡ w ∷ ws → (x : List ℕ) × (xs : List (List ℕ)) × (cond t ([] ∷ vs) (onto_first b vs) ≡ x ∷ xs)
    by_test true w ws vs e = ([], vs, refl)
    by_test false w ws vs e = (b ∷ w, ws, ap (onto_first b) e)

-- there are two words at least
pub record HasMore (text : List ℕ) : Type 0 where
  pub first : List ℕ
  pub second : List ℕ
  pub more : List (List ℕ)
  pub words_are : words text ≡ first ∷ second ∷ more

pub more_words : (text : List ℕ) → lacks 32 text ≡ false → HasMore text
more_words [] h = absurd (let bad : ⊥ = cc in bad)
more_words (b ∷ text) h = by_test (b == 32) refl h (more_words text)
  where
    by_test : (t : Bool) → (b == 32) ≡ t → (not t && lacks 32 text) ≡ false → (lacks 32 text ≡ false → HasMore text) → HasMore (b ∷ text)
    by_test true e h rest =
        let some = some_word text in
        record { first = []; second = some.0; more = some.1; words_are = ap (λ t. cond t ([] ∷ words text) (onto_first b (words text))) e ∙ ap (λ ws. [] ∷ ws) some.2 }
    by_test false e h rest =
        let found = rest h in
        record { first = b ∷ found.first; second = found.second; more = found.more; words_are = ap (λ t. cond t ([] ∷ words text) (onto_first b (words text))) e ∙ ap (onto_first b) found.words_are }

no_digits : (text : List ℕ) → lacks 32 text ≡ false → list_all is_digit text ≡ false
no_digits [] h = absurd (let bad : ⊥ = cc in bad)
no_digits (b ∷ text) h = by_test (b == 32) refl h (no_digits text)
  where
    by_test : (t : Bool) → (b == 32) ≡ t → (not t && lacks 32 text) ≡ false → (lacks 32 text ≡ false → list_all is_digit text ≡ false) → (is_digit b && list_all is_digit text) ≡ false
    by_test true e h rest = ap (λ x. is_digit x && list_all is_digit text) (eqb-true b 32 e)
    by_test false e h rest = ap (λ t. is_digit b && t) (rest h) ∙ and-false (is_digit b)

-- what has a space is no number
pub spaced : (most : ℕ) (text : List ℕ) → lacks 32 text ≡ false → number_upto most text ≡ None
spaced most [] h = refl
spaced most (d ∷ ds) h =
    by_digits (list_all is_digit (d ∷ ds)) (not (d == 48) || (length ds == 0)) (nat_le (fold (λ n c. 10 * n + (c - 48)) 0 (d ∷ ds)) most) (fold (λ n c. 10 * n + (c - 48)) 0 (d ∷ ds)) (no_digits (d ∷ ds) h)
  where
    by_digits : (a b e : Bool) (n : ℕ) → a ≡ false → cond (a && b && e) (Some n) None ≡ None
    by_digits true b e n h = absurd (let bad : ⊥ = cc in bad)
    by_digits false true e n h = refl
    by_digits false false e n h = refl

-- a word and a number
pub number_words : (name w rest : List ℕ) → number_by name (Some (w ∷ words rest)) ≡ cond (same_text w name) (number_upto most_number rest) None
number_words name w rest = by_space (lacks 32 rest) refl
  where
    none_either : (t : Bool) (o : Option ℕ) → o ≡ None → None ≡ cond t o None
    none_either true o e = sym e
    none_either false o e = refl

    by_space : (t : Bool) → lacks 32 rest ≡ t → number_by name (Some (w ∷ words rest)) ≡ cond (same_text w name) (number_upto most_number rest) None
    by_space true e = ap (λ ws. number_by name (Some (w ∷ ws))) (one_word rest e)
    by_space false e =
        let found = more_words rest e in
        ap (λ ws. number_by name (Some (w ∷ ws))) found.words_are ∙ none_either (same_text w name) (number_upto most_number rest) (spaced most_number rest e)

-- the number of the first line
abbrev pub number_step : ℕ → List (List ℕ) → Option ℕ → Reading (ℕ × List (List ℕ))
number_step k ls None = Err k
number_step k ls (Some n) = Ok (n, ls)

pub number_at_line : (k : ℕ) (name l : List ℕ) (ls : List (List ℕ)) → number_at k name (l ∷ ls) ≡ number_step k ls (number_of_line name l)
number_at_line k name l ls = by_number (number_of_line name l)
  where
    by_number : (o : Option ℕ) → (elim o [ None ↦ Err k | Some n ↦ Ok (n, ls) ]) ≡ number_step k ls o
    by_number None = refl
    by_number (Some n) = refl

pub no_number : (k : ℕ) (name text : List ℕ) → lacks 10 text ≡ true → number_at k name (lines_of text) ≡ Err k
no_number k name text h =
    ⊎_elim
    (λ (e : lines_of text ≡ []). ap (number_at k name) e)
    (λ (e : lines_of text ≡ text ∷ []). ap (number_at k name) e ∙ number_at_line k name text [] ∙ ap (number_step k []) (number_is name text ∙ ap (number_by name) (no_words text h)))
    (last_piece text h)

pub number_at_is : (k : ℕ) (name found rest text : List ℕ) (o : Option ℕ) → text ≡ found ++ 10 ∷ rest → lacks 10 found ≡ true → o ≡ number_of_line name (found ++ 10 ∷ []) → number_at k name (lines_of text) ≡ number_step k (lines_of rest) o
number_at_is k name found rest text o is h at =
    ap (λ t. number_at k name (lines_of t)) is ∙ ap (number_at k name) (lines_cut found rest h) ∙ number_at_line k name (found ++ 10 ∷ []) (lines_of rest) ∙ ap (number_step k (lines_of rest)) (sym at)

-- the number of a line, where it has no space, and where it has one
pub number_nowhere : (name line : List ℕ) → lacks 10 line ≡ true → lacks 32 line ≡ true → number_of_line name (line ++ 10 ∷ []) ≡ None
number_nowhere name line h no_space = number_is name (line ++ 10 ∷ []) ∙ ap (number_by name) (words_ended line h) ∙ ap (λ ws. number_by name (Some ws)) (one_word line no_space)

pub number_there : (name line w rest : List ℕ) → lacks 10 line ≡ true → line ≡ w ++ 32 ∷ rest → lacks 32 w ≡ true → number_of_line name (line ++ 10 ∷ []) ≡ cond (same_text w name) (number_upto most_number rest) None
number_there name line w rest h is no_space =
    number_is name (line ++ 10 ∷ []) ∙ ap (number_by name) (words_ended line h) ∙ ap (λ ws. number_by name (Some ws)) (ap words is ∙ words_cut w rest no_space) ∙ number_words name w rest
