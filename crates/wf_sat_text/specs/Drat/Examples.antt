-- Worked examples, by computation.
use Rattle.std.specs.Prelude.{◌≡◌, ℕ, List, [], ◌∷◌, ◌++◌, codes, false, refl}
use Rattle.wf_sat_text.specs.Clauses.Formula.{neg, pos}
use Rattle.wf_sat_text.specs.Drat.Codes.{last_variable}
use Rattle.wf_sat_text.specs.Drat.Text.{End, State, Step, at_start, broken_in, deletion, lemma, open_in, text_of}
use Rattle.wf_sat_text.specs.declared.drat.reader.ParseError.TheVariants.{NotALiteral, NoSuchVariable, Binary}
use Rattle.wf_sat_text.specs.declared.drat.reader.Reading.TheVariants.{Blank, Number}

-- a text on three variables
abbrev steps_in : List ℕ → List Step
steps_in bytes = (text_of (at_start 3) bytes).steps

abbrev end_of : List ℕ → End
end_of bytes = (text_of (at_start 3) bytes).end

abbrev in_line : ℕ → State
in_line n = record { variables = 3; line = n; reading = Blank; is_deletion = false; clause = [] }

-- a comment's line is passed over, and counted
pub a_lemma_behind_a_comment : steps_in (codes "c 1 0\n1 -2 0\n") ≡ lemma 2 (pos 1 ∷ neg 2 ∷ []) ∷ []
a_lemma_behind_a_comment = refl

-- PicoSAT begins so
pub a_lemma_behind_a_header : steps_in (codes "%RUPD32 3 4\n1 -2 0\n") ≡ lemma 2 (pos 1 ∷ neg 2 ∷ []) ∷ []
a_lemma_behind_a_header = refl

-- within a step it is no comment
pub a_percent_sign_within_a_step : end_of (codes "1 % 0\n") ≡ broken_in 1 NotALiteral
a_percent_sign_within_a_step = refl

pub the_line_behind_them : end_of (codes "c 1 0\n1 -2 0\n") ≡ open_in (in_line 3)
the_line_behind_them = refl

pub lines_that_end_in_two_bytes : steps_in (codes "1 0\r\n2 0\r\n") ≡ lemma 1 (pos 1 ∷ []) ∷ lemma 2 (pos 2 ∷ []) ∷ []
lines_that_end_in_two_bytes = refl

pub a_deletion_and_the_empty_lemma : steps_in (codes "d 3 1 0\n0\n") ≡ deletion (pos 3 ∷ pos 1 ∷ []) ∷ lemma 2 [] ∷ []
a_deletion_and_the_empty_lemma = refl

-- a clause may span lines: its line is that of its 0; and a line may have two
pub a_clause_in_two_lines : steps_in (codes "1\n2 0 -3 0\n") ≡ lemma 2 (pos 1 ∷ pos 2 ∷ []) ∷ lemma 2 (neg 3 ∷ []) ∷ []
a_clause_in_two_lines = refl

-- the last 0 ends its step only with the byte behind it
pub no_line_feed_yet : text_of (at_start 3) (codes "-1 0") ≡ record { steps = []; end = open_in (record { variables = 3; line = 1; reading = Number false 0; is_deletion = false; clause = neg 1 ∷ [] }) }
no_line_feed_yet = refl

pub the_line_feed_that_ends_it : steps_in (codes "-1 0\n") ≡ lemma 1 (neg 1 ∷ []) ∷ []
the_line_feed_that_ends_it = refl

-- what stands before a flaw is said
pub a_word_that_is_no_literal : text_of (at_start 3) (codes "2 0\n1 x 0\n")
    ≡ record { steps = lemma 1 (pos 2 ∷ []) ∷ []; end = broken_in 2 NotALiteral }
a_word_that_is_no_literal = refl

pub a_zero_with_a_sign : end_of (codes "1 -0 ") ≡ broken_in 1 NotALiteral
a_zero_with_a_sign = refl

pub a_literal_beyond_the_variables : end_of (codes "\n1 -4 0") ≡ broken_in 2 NoSuchVariable
a_literal_beyond_the_variables = refl

-- 2 ^ 32 + 1 is not taken for 1
pub a_literal_beyond_32_bits : end_of (codes "4294967297 0") ≡ broken_in 1 NoSuchVariable
a_literal_beyond_32_bits = refl

pub the_mark_of_a_lemma_in_the_binary_form : end_of (97 ∷ 2 ∷ 0 ∷ []) ≡ broken_in 1 Binary
the_mark_of_a_lemma_in_the_binary_form = refl

pub a_byte_of_no_text : end_of (codes "d" ++ 130 ∷ 1 ∷ 0 ∷ []) ≡ broken_in 1 Binary
a_byte_of_no_text = refl

-- a formula with 12 variables: a proof may have new ones up to this number
pub last_of_twelve : last_variable 12 ≡ 65560
last_of_twelve = refl
