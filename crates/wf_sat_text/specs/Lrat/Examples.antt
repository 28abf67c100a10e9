-- Worked examples, by computation.
use Rattle.std.specs.Prelude.{◌≡◌, ℕ, List, [], ◌∷◌, ◌++◌, codes, true, false, refl}
use Rattle.wf_sat_text.specs.Clauses.Formula.{neg, pos}
use Rattle.wf_sat_text.specs.Lrat.Text.{End, State, Step, addition, at_start, broken_in, deletion, open_in, text_of}
use Rattle.wf_sat_text.specs.declared.lrat.reader.Hint.{Hint}
use Rattle.wf_sat_text.specs.declared.lrat.reader.LratParseError.TheVariants.{NotALiteral, NoSuchVariable, Binary}
use Rattle.wf_sat_text.specs.declared.lrat.reader.LratStepPart.TheVariants.{Front, Hints}
use Rattle.wf_sat_text.specs.declared.lrat.reader.LratToken.TheVariants.{Blank, Number}

-- a text on three variables
abbrev steps_in : List ℕ → List Step
steps_in bytes = (text_of (at_start 3) bytes).steps

abbrev end_of : List ℕ → End
end_of bytes = (text_of (at_start 3) bytes).end

-- a hint that is not negative, and one that is
abbrev to : ℕ → Hint
to id = record { id = id; is_negative = false }

abbrev against : ℕ → Hint
against id = record { id = id; is_negative = true }

abbrev in_line : ℕ → State
in_line n = record { variables = 3; line = n; reading = Blank; part = Front; id = 0; clause = []; hints = []; ids = [] }

-- a comment's line is passed over, and counted
pub an_addition_behind_a_comment : steps_in (codes "c 1 0\n9 1 -2 0 4 7 0\n") ≡ addition 2 9 (pos 1 ∷ neg 2 ∷ []) (to 4 ∷ to 7 ∷ []) ∷ []
an_addition_behind_a_comment = refl

pub the_line_behind_them : end_of (codes "c 1 0\n9 1 0 4 0\n") ≡ open_in (in_line 3)
the_line_behind_them = refl

-- the id in front of a deletion has no meaning
pub a_deletion_and_the_empty_clause : steps_in (codes "9 d 3 4 0\n10 0 5 6 0\n")
    ≡ deletion (3 ∷ 4 ∷ []) ∷ addition 2 10 [] (to 5 ∷ to 6 ∷ []) ∷ []
a_deletion_and_the_empty_clause = refl

pub a_clause_without_hints : steps_in (codes "9 1 0 0\n") ≡ addition 1 9 (pos 1 ∷ []) [] ∷ []
a_clause_without_hints = refl

-- a step may span lines: its line is that of its last 0; and a line may have two
pub a_step_in_two_lines : steps_in (codes "9 1 0\n4 0 10 2 0 5 0\n")
    ≡ addition 2 9 (pos 1 ∷ []) (to 4 ∷ []) ∷ addition 2 10 (pos 2 ∷ []) (to 5 ∷ []) ∷ []
a_step_in_two_lines = refl

-- the last 0 ends its step only with the byte behind it
pub no_line_feed_yet : text_of (at_start 3) (codes "9 -1 0 4 0")
    ≡ record { steps = []; end = open_in (record { variables = 3; line = 1; reading = Number false 0; part = Hints; id = 9; clause = neg 1 ∷ []; hints = to 4 ∷ []; ids = [] }) }
no_line_feed_yet = refl

-- what stands before a flaw is said
pub a_word_that_is_no_literal : text_of (at_start 3) (codes "9 2 0 4 0\n10 1 x 0\n")
    ≡ record { steps = addition 1 9 (pos 2 ∷ []) (to 4 ∷ []) ∷ []; end = broken_in 2 NotALiteral }
a_word_that_is_no_literal = refl

pub a_word_that_is_no_hint : end_of (codes "9 2 0 4 d 0\n") ≡ broken_in 1 NotALiteral
a_word_that_is_no_hint = refl

-- only right behind the id
pub a_deletion_behind_a_literal : end_of (codes "9 2 d 4 0\n") ≡ broken_in 1 NotALiteral
a_deletion_behind_a_literal = refl

pub an_id_with_a_sign : end_of (codes "-9 2 0 4 0\n") ≡ broken_in 1 NotALiteral
an_id_with_a_sign = refl

pub a_literal_beyond_the_variables : end_of (codes "\n9 -4 0") ≡ broken_in 2 NoSuchVariable
a_literal_beyond_the_variables = refl

-- 2 ^ 64 + 1 is not taken for 1
pub a_literal_beyond_64_bits : end_of (codes "9 18446744073709551617 0") ≡ broken_in 1 NoSuchVariable
a_literal_beyond_64_bits = refl

pub a_negative_hint : steps_in (codes "9 2 0 4 -5 6 0\n") ≡ addition 1 9 (pos 2 ∷ []) (to 4 ∷ against 5 ∷ to 6 ∷ []) ∷ []
a_negative_hint = refl

pub no_0_with_a_sign : end_of (codes "9 2 0 4 -0\n") ≡ broken_in 1 NotALiteral
no_0_with_a_sign = refl

pub a_negative_id_to_delete : end_of (codes "9 d 4 -5 0\n") ≡ broken_in 1 NotALiteral
a_negative_id_to_delete = refl

pub the_mark_of_a_clause_in_the_binary_form : end_of (97 ∷ 2 ∷ 0 ∷ []) ≡ broken_in 1 Binary
the_mark_of_a_clause_in_the_binary_form = refl

pub a_byte_of_no_text : end_of (codes "9 d" ++ 130 ∷ 1 ∷ 0 ∷ []) ≡ broken_in 1 Binary
a_byte_of_no_text = refl
