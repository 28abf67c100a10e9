-- The text in which a SAT solver says a model of a formula.
use Rattle.std.specs.Prelude.{ℕ, ◌+◌, ◌-◌, ◌*◌, ◌==◌, ◌&&◌, ◌||◌, nat_le, nat_lt, Bool, false, not, List, [], ◌∷◌, ◌++◌, map, filter, length, fold, codes, Result, Ok, Err, if◌then◌else◌}
use Rattle.std.specs.List.{list_any, list_all, slice_split}
use Rattle.wf_model.specs.Report.{same_text}
use Rattle.wf_sat_text.specs.Clauses.Formula.{Literal, pos, neg, Assignment}

-- why no model can be had of a text, with the line, from 1 on, where that is seen
pub data SolverFault : Type 0 where
  -- the model ends, and had no literal
  NoModel : (line : ℕ) → SolverFault
  -- a word isn't a literal
  NotALiteral : (line : ℕ) → SolverFault
  -- a literal's number is greater than that of any variable
  NoSuchVariable : (line : ℕ) → SolverFault

-- ---- words

abbrev pub lines : List ℕ → List (List ℕ)
lines text = slice_split (λ b. b == 10) text

-- a space, a tab or a carriage return
abbrev pub is_blank : ℕ → Bool
is_blank b = b == 32 || (b == 9 || b == 13)

abbrev pub words : List ℕ → List (List ℕ)
words line = filter (λ word. nat_lt 0 (length word)) (slice_split is_blank line)

-- lines that begin with one of these words say nothing of the model:
-- comments, and whether there is one
abbrev pub passed_over : List (List ℕ)
passed_over = codes "c" ∷ codes "s" ∷ codes "SAT" ∷ codes "UNSAT" ∷ codes "INDET" ∷ []

abbrev pub is_passed_over : List ℕ → Bool
is_passed_over word = list_any (same_text word) passed_over

-- the words of a line that are to be literals: those after the word v, or all
abbrev pub model_words : List (List ℕ) → List (List ℕ)
model_words [] = []
model_words (word ∷ ws) =
    if is_passed_over word then [] else (if same_text word (codes "v") then ws else word ∷ ws)

-- those of all lines, each with the number of its line
abbrev pub words_from : ℕ → List (List ℕ) → List (ℕ × List ℕ)
words_from number [] = []
words_from number (line ∷ ls) = map (λ word. (number, word)) (model_words (words line)) ++ words_from (number + 1) ls

-- ---- literals

abbrev pub is_digit : ℕ → Bool
is_digit c = nat_le 48 c && nat_le c 57

-- the digits of a number from 1 on, with no 0 before the first
abbrev pub is_numeral : List ℕ → Bool
is_numeral [] = false
is_numeral (d ∷ ds) = not (d == 48) && list_all is_digit (d ∷ ds)

abbrev pub number_of : List ℕ → ℕ
number_of digits = fold (λ n c. 10 * n + (c - 48)) 0 digits

-- the literal on the variable of these digits, among so many variables
abbrev pub literal_on : ℕ → ℕ → (ℕ → Literal) → List ℕ → Result Literal SolverFault
literal_on variables line sign digits =
    if is_numeral digits
    then (if nat_le (number_of digits) variables then Ok (sign (number_of digits)) else Err (NoSuchVariable line))
    else Err (NotALiteral line)

-- a word is a literal if it is such digits, or those after a minus
abbrev pub literal_of : ℕ → ℕ → List ℕ → Result Literal SolverFault
literal_of variables line [] = Err (NotALiteral line)
literal_of variables line (c ∷ cs) =
    if c == 45 then literal_on variables line neg cs else literal_on variables line pos (c ∷ cs)

-- ---- models

-- a model has a literal at least
abbrev pub ended : ℕ → List Literal → Result (List Literal) SolverFault
ended line [] = Err (NoModel line)
ended line (l ∷ ls) = Ok (l ∷ ls)

abbrev pub then_literal : {Y : Type 0} → Result Literal SolverFault → (Literal → Result Y SolverFault) → Result Y SolverFault
then_literal (Ok l) next = next l
then_literal (Err fault) next = Err fault

-- The literals found so far, and those of these words up to the word 0, or to the end. That is on
-- the last line: the one behind the last line feed, which may be empty.
abbrev pub model_from : ℕ → ℕ → List Literal → List (ℕ × List ℕ) → Result (List Literal) SolverFault
model_from variables last found [] = ended last found
model_from variables last found (at ∷ rest) =
    if same_text at.1 (codes "0")
    then ended at.0 found
    else then_literal (literal_of variables at.0 at.1) (λ l. model_from variables last (found ++ l ∷ []) rest)

-- the literals that a text says, among so many variables
abbrev pub model_of : ℕ → List ℕ → Result (List Literal) SolverFault
model_of variables text = model_from variables (length (lines text)) [] (words_from 1 (lines text))

-- ---- the assignment of a model

abbrev pub states : ℕ → Literal → Bool
states n (pos m) = m == n
states n (neg m) = false

-- a variable is true where it stands positive among the literals
abbrev pub stated : List Literal → Assignment
stated ls = λ n. list_any (states n) ls
