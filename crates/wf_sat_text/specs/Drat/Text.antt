-- Which steps the text of a clausal proof has: it is read byte by byte.
use Rattle.std.specs.Prelude.{ℕ, ◌+◌, ◌-◌, ◌*◌, ◌^◌, ◌==◌, ◌&&◌, ◌||◌, nat_lt, min, Bool, true, false, not, List, [], ◌∷◌, ◌++◌, length, if◌then◌else◌}
use Rattle.std.specs.Char.{is_ascii_digit}
use Rattle.std.specs.Int.{is_in_range}
use Rattle.wf_sat_text.specs.Clauses.Formula.{Clause, pos, neg}
use Rattle.wf_sat_text.specs.Drat.Codes.{last_variable, most_variables}
use Rattle.wf_sat_text.specs.declared.drat.reader.ParseError.{ParseError}
use Rattle.wf_sat_text.specs.declared.drat.reader.ParseError.TheVariants.{NotALiteral, NoSuchVariable, Binary}
use Rattle.wf_sat_text.specs.declared.drat.reader.Reading.{Reading}
use Rattle.wf_sat_text.specs.declared.drat.reader.Reading.TheVariants.{Blank, Comment, Minus, Number}
use Rattle.wf_sat_text.specs.declared.drat.reader.Transition.{Transition}
use Rattle.wf_sat_text.specs.declared.drat.reader.Transition.TheVariants.{GoesOn, BeginsDeletion, Takes, Ends, Stops}

-- a step: a lemma, which ends in the line of this number, or a deletion
pub data Step : Type 0 where
  lemma : (line : ℕ) → Clause → Step
  deletion : Clause → Step

-- a reader of a text: the text is on the variables from 1 to this number; the next byte stands in
-- the line of this number; what the bytes before it are; whether the step at hand is a deletion;
-- and its literals so far
pub record State : Type 0 where
  pub variables : ℕ
  pub line : ℕ
  pub reading : Reading
  pub is_deletion : Bool
  pub clause : Clause

-- at the front of a text
abbrev pub at_start : ℕ → State
at_start variables = record { variables = min variables most_variables; line = 1; reading = Blank; is_deletion = false; clause = [] }

-- where a proof's text begins, of clauses on the variables from 1 to this number
abbrev pub proof_start : ℕ → State
proof_start variables = at_start (last_variable variables)

-- ---- bytes

-- a space, a tab, a carriage return or a line feed
abbrev pub is_blank : ℕ → Bool
is_blank byte = byte == 32 || (byte == 9 || (byte == 13 || byte == 10))

-- a text has no other control characters, and no bytes of 7F and above
abbrev pub is_of_text : ℕ → Bool
is_of_text byte = is_blank byte || is_in_range 32 126 byte

-- a number with one digit more, as far as 32 bits hold it: no variable has so large a one
abbrev pub with_digit : ℕ → ℕ → ℕ
with_digit value byte = min (value * 10 + (byte - 48)) (2 ^ 32 - 1)

-- ---- what a byte comes to

-- the byte stands in no literal
abbrev pub parse_error : ℕ → Transition
parse_error byte = Stops (if is_of_text byte then NotALiteral else Binary)

-- a number has this digit more
abbrev pub digit_transition : Bool → ℕ → ℕ → Transition
digit_transition is_negative value byte = GoesOn (Number is_negative (with_digit value byte))

-- a number was read: a literal, or the 0 that ends a step
abbrev pub number_transition : State → Bool → ℕ → Transition
number_transition s is_negative value =
    if value == 0 then (if is_negative then Stops NotALiteral else Ends)
    else if nat_lt s.variables value then Stops NoSuchVariable
    else Takes (if is_negative then neg value else pos value)

-- no step was begun
abbrev pub is_between_steps : State → Bool
is_between_steps s = not s.is_deletion && length s.clause == 0

-- between two steps c or % begins a comment, and d a deletion; a is the mark
-- of a lemma in the binary form
abbrev pub between_steps : ℕ → Transition
between_steps byte =
    if byte == 99 || byte == 37 then GoesOn Comment
    else if byte == 100 then BeginsDeletion
    else if byte == 97 then Stops Binary
    else parse_error byte

-- behind a blank, or at the front
abbrev pub after_blank : State → ℕ → Transition
after_blank s byte =
    if is_blank byte then GoesOn Blank
    else if byte == 45 then GoesOn Minus
    else if is_ascii_digit byte then digit_transition false 0 byte
    else if is_between_steps s then between_steps byte
    else parse_error byte

-- in a comment
abbrev pub comment_transition : ℕ → Transition
comment_transition byte = GoesOn (if byte == 10 then Blank else Comment)

-- behind a sign
abbrev pub sign_transition : ℕ → Transition
sign_transition byte = if is_ascii_digit byte then digit_transition true 0 byte else parse_error byte

abbrev pub turn_behind : Reading → State → ℕ → Transition
turn_behind Blank s byte = after_blank s byte
turn_behind Comment s byte = comment_transition byte
turn_behind Minus s byte = sign_transition byte
turn_behind (Number is_negative value) s byte =
    if is_ascii_digit byte then digit_transition is_negative value byte
    else if is_blank byte then number_transition s is_negative value
    else parse_error byte

abbrev pub turn_of : State → ℕ → Transition
turn_of s byte = turn_behind s.reading s byte

-- ---- texts

-- what is read then
abbrev pub after : Transition → State → State
after (GoesOn reading) s =
    record { variables = s.variables; line = s.line; reading = reading; is_deletion = s.is_deletion; clause = s.clause }
after BeginsDeletion s = record { variables = s.variables; line = s.line; reading = Blank; is_deletion = true; clause = s.clause }
after (Takes literal) s =
    record { variables = s.variables; line = s.line; reading = Blank; is_deletion = s.is_deletion; clause = s.clause ++ literal ∷ [] }
after Ends s = record { variables = s.variables; line = s.line; reading = Blank; is_deletion = false; clause = [] }
after (Stops flaw) s = s

-- lines are counted as far as 64 bits hold their number
abbrev pub next_line : ℕ → State → State
next_line byte s = record {
  variables = s.variables;
  line = if byte == 10 then min (s.line + 1) (2 ^ 64 - 1) else s.line;
  reading = s.reading;
  is_deletion = s.is_deletion;
  clause = s.clause;
}

abbrev pub state_after : Transition → ℕ → State → State
state_after transition byte s = next_line byte (after transition s)

-- the step that ends here
abbrev pub step_of : State → Step
step_of s = if s.is_deletion then deletion s.clause else lemma s.line s.clause

-- bytes leave off in this state; or they are none of a proof, in this line and for this reason
pub data End : Type 0 where
  open_in : State → End
  broken_in : (line : ℕ) → ParseError → End

-- what bytes say
pub record Text : Type 0 where
  pub steps : List Step
  pub end : End

-- these steps, and then a text
abbrev pub behind : List Step → Text → Text
behind steps text = record { steps = steps ++ text.steps; end = text.end }

-- what bytes say of which the first one comes to this transition
abbrev pub text_from : Transition → State → ℕ → (State → Text) → Text
text_from (GoesOn reading) s byte rest = rest (state_after (GoesOn reading) byte s)
text_from BeginsDeletion s byte rest = rest (state_after BeginsDeletion byte s)
text_from (Takes literal) s byte rest = rest (state_after (Takes literal) byte s)
text_from Ends s byte rest = behind (step_of s ∷ []) (rest (state_after Ends byte s))
text_from (Stops flaw) s byte rest = record { steps = []; end = broken_in s.line flaw }

abbrev pub text_of : State → List ℕ → Text
text_of s [] = record { steps = []; end = open_in s }
text_of s (byte ∷ bytes) = text_from (turn_of s byte) s byte (λ next. text_of next bytes)
