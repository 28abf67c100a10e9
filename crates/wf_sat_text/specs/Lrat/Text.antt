-- Which steps the text of a clausal proof with hints has: it is read byte by byte.
use Rattle.std.specs.Prelude.{ℕ, ◌+◌, ◌-◌, ◌*◌, ◌^◌, ◌==◌, ◌&&◌, ◌||◌, nat_lt, min, Bool, true, false, List, [], ◌∷◌, ◌++◌, length, if◌then◌else◌}
use Rattle.std.specs.Char.{is_ascii_digit}
use Rattle.wf_sat_text.specs.Clauses.Formula.{Clause, pos, neg}
use Rattle.wf_sat_text.specs.Drat.Codes.{most_variables}
use Rattle.wf_sat_text.specs.Drat.Text.{is_blank, is_of_text}
use Rattle.wf_sat_text.specs.declared.lrat.reader.Hint.{Hint}
use Rattle.wf_sat_text.specs.declared.lrat.reader.LratParseError.{LratParseError}
use Rattle.wf_sat_text.specs.declared.lrat.reader.LratParseError.TheVariants.{NotALiteral, NoSuchVariable, Binary}
use Rattle.wf_sat_text.specs.declared.lrat.reader.LratToken.{LratToken}
use Rattle.wf_sat_text.specs.declared.lrat.reader.LratToken.TheVariants.{Blank, Comment, Minus, Number}
use Rattle.wf_sat_text.specs.declared.lrat.reader.LratStepPart.{LratStepPart}
use Rattle.wf_sat_text.specs.declared.lrat.reader.LratStepPart.TheVariants.{Front, Literals, Hints, Ids}
use Rattle.wf_sat_text.specs.declared.lrat.reader.LratTransition.{LratTransition}
use Rattle.wf_sat_text.specs.declared.lrat.reader.LratTransition.TheVariants.{GoesOn, Begins, BeginsDeletion, Takes, EndsClause, Names, Deletes, Ends, Stops}

-- a step: a clause with an id, and the hints that justify it, which ends in
-- the line of this number; or ids of clauses to delete
pub data Step : Type 0 where
  addition : (line id : ℕ) → Clause → (hints : List Hint) → Step
  deletion : (ids : List ℕ) → Step

-- a reader of a text: the text is on the variables from 1 to this number; the next byte stands in
-- the line of this number; what the bytes before it are; which part of a step is at hand; and of
-- that step its id, its literals so far, its hints so far, and the ids so far behind a d
pub record State : Type 0 where
  pub variables : ℕ
  pub line : ℕ
  pub reading : LratToken
  pub part : LratStepPart
  pub id : ℕ
  pub clause : Clause
  pub hints : List Hint
  pub ids : List ℕ

-- at the front of a text
abbrev pub at_start : ℕ → State
at_start variables = record {
  variables = min variables most_variables;
  line = 1;
  reading = Blank;
  part = Front;
  id = 0;
  clause = [];
  hints = [];
  ids = [];
}

-- ---- bytes

-- the largest number that is told from larger ones: no clause has so large an id
abbrev pub most_number : ℕ
most_number = 1152921504606846976

-- a number with one digit more, as far as it is told
abbrev pub with_digit : ℕ → ℕ → ℕ
with_digit value byte = min (value * 10 + (byte - 48)) most_number

-- ---- what a byte comes to

-- the byte stands in no number
abbrev pub parse_error : ℕ → LratTransition
parse_error byte = Stops (if is_of_text byte then NotALiteral else Binary)

-- a number has this digit more
abbrev pub digit_transition : Bool → ℕ → ℕ → LratTransition
digit_transition is_negative value byte = GoesOn (Number is_negative (with_digit value byte))

-- a number was read where a step begins: its id
abbrev pub id_transition : Bool → ℕ → LratTransition
id_transition is_negative value = if is_negative then Stops NotALiteral else Begins value

-- a number was read among literals: one of them, or the 0 behind them
abbrev pub literal_transition : ℕ → Bool → ℕ → LratTransition
literal_transition variables is_negative value =
    if value == 0 then (if is_negative then Stops NotALiteral else EndsClause)
    else if nat_lt variables value then Stops NoSuchVariable
    else Takes (if is_negative then neg value else pos value)

-- a number was read among hints: one of them, or the 0 that ends the step
abbrev pub hint_transition : Bool → ℕ → LratTransition
hint_transition is_negative value =
    if value == 0 then (if is_negative then Stops NotALiteral else Ends)
    else Names (record { id = value; is_negative = is_negative })

-- a number was read among ids to delete: one of them, or the 0 that ends the step
abbrev pub deletion_transition : Bool → ℕ → LratTransition
deletion_transition is_negative value =
    if is_negative then Stops NotALiteral
    else if value == 0 then Ends
    else Deletes value

-- a number was read in this part of a step
abbrev pub number_turn_in : LratStepPart → ℕ → Bool → ℕ → LratTransition
number_turn_in Front variables is_negative value = id_transition is_negative value
number_turn_in Literals variables is_negative value = literal_transition variables is_negative value
number_turn_in Hints variables is_negative value = hint_transition is_negative value
number_turn_in Ids variables is_negative value = deletion_transition is_negative value

abbrev pub number_transition : State → Bool → ℕ → LratTransition
number_transition s is_negative value = number_turn_in s.part s.variables is_negative value

-- between two steps c or % begins a comment; a is the mark of a clause in the binary form
abbrev pub between_steps : ℕ → LratTransition
between_steps byte =
    if byte == 99 || byte == 37 then GoesOn Comment
    else if byte == 97 then Stops Binary
    else parse_error byte

-- right behind an id a d begins a deletion
abbrev pub after_id : ℕ → ℕ → LratTransition
after_id literals byte = if literals == 0 && byte == 100 then BeginsDeletion else parse_error byte

-- a byte that begins no number, in this part of a step with so many literals
abbrev pub other_turn_in : LratStepPart → ℕ → ℕ → LratTransition
other_turn_in Front literals byte = between_steps byte
other_turn_in Literals literals byte = after_id literals byte
other_turn_in Hints literals byte = parse_error byte
other_turn_in Ids literals byte = parse_error byte

-- behind a blank, or at the front
abbrev pub after_blank : State → ℕ → LratTransition
after_blank s byte =
    if is_blank byte then GoesOn Blank
    else if byte == 45 then GoesOn Minus
    else if is_ascii_digit byte then digit_transition false 0 byte
    else other_turn_in s.part (length s.clause) byte

-- in a comment
abbrev pub comment_transition : ℕ → LratTransition
comment_transition byte = GoesOn (if byte == 10 then Blank else Comment)

-- behind a sign
abbrev pub sign_transition : ℕ → LratTransition
sign_transition byte = if is_ascii_digit byte then digit_transition true 0 byte else parse_error byte

abbrev pub turn_behind : LratToken → State → ℕ → LratTransition
turn_behind Blank s byte = after_blank s byte
turn_behind Comment s byte = comment_transition byte
turn_behind Minus s byte = sign_transition byte
turn_behind (Number is_negative value) s byte =
    if is_ascii_digit byte then digit_transition is_negative value byte
    else if is_blank byte then number_transition s is_negative value
    else parse_error byte

abbrev pub turn_of : State → ℕ → LratTransition
turn_of s byte = turn_behind s.reading s byte

-- ---- texts

-- what is read then
abbrev pub after : LratTransition → State → State
after (GoesOn reading) s = record { variables = s.variables; line = s.line; reading = reading; part = s.part; id = s.id; clause = s.clause; hints = s.hints; ids = s.ids }
after (Begins id) s = record { variables = s.variables; line = s.line; reading = Blank; part = Literals; id = id; clause = s.clause; hints = s.hints; ids = s.ids }
after BeginsDeletion s = record { variables = s.variables; line = s.line; reading = Blank; part = Ids; id = s.id; clause = s.clause; hints = s.hints; ids = s.ids }
after (Takes literal) s = record { variables = s.variables; line = s.line; reading = Blank; part = s.part; id = s.id; clause = s.clause ++ literal ∷ []; hints = s.hints; ids = s.ids }
after EndsClause s = record { variables = s.variables; line = s.line; reading = Blank; part = Hints; id = s.id; clause = s.clause; hints = s.hints; ids = s.ids }
after (Names hint) s = record { variables = s.variables; line = s.line; reading = Blank; part = s.part; id = s.id; clause = s.clause; hints = s.hints ++ hint ∷ []; ids = s.ids }
after (Deletes id) s = record { variables = s.variables; line = s.line; reading = Blank; part = s.part; id = s.id; clause = s.clause; hints = s.hints; ids = s.ids ++ id ∷ [] }
after Ends s = record { variables = s.variables; line = s.line; reading = Blank; part = Front; id = 0; clause = []; hints = []; ids = [] }
after (Stops flaw) s = s

-- lines are counted as far as 64 bits hold their number
abbrev pub next_line : ℕ → State → State
next_line byte s = record {
  variables = s.variables;
  line = if byte == 10 then min (s.line + 1) (2 ^ 64 - 1) else s.line;
  reading = s.reading;
  part = s.part;
  id = s.id;
  clause = s.clause;
  hints = s.hints;
  ids = s.ids;
}

abbrev pub state_after : LratTransition → ℕ → State → State
state_after transition byte s = next_line byte (after transition s)

-- the step that ends here
abbrev pub step_in : LratStepPart → State → Step
step_in Ids s = deletion s.ids
step_in Front s = addition s.line s.id s.clause s.hints
step_in Literals s = addition s.line s.id s.clause s.hints
step_in Hints s = addition s.line s.id s.clause s.hints

abbrev pub step_of : State → Step
step_of s = step_in s.part s

-- bytes leave off in this state; or they are none of a proof, in this line and for this reason
pub data End : Type 0 where
  open_in : State → End
  broken_in : (line : ℕ) → LratParseError → End

-- what bytes say
pub record Text : Type 0 where
  pub steps : List Step
  pub end : End

-- these steps, and then a text
abbrev pub behind : List Step → Text → Text
behind steps text = record { steps = steps ++ text.steps; end = text.end }

-- what bytes say of which the first one comes to this transition
abbrev pub text_from : LratTransition → State → ℕ → (State → Text) → Text
text_from (GoesOn reading) s byte rest = rest (state_after (GoesOn reading) byte s)
text_from (Begins id) s byte rest = rest (state_after (Begins id) byte s)
text_from BeginsDeletion s byte rest = rest (state_after BeginsDeletion byte s)
text_from (Takes literal) s byte rest = rest (state_after (Takes literal) byte s)
text_from EndsClause s byte rest = rest (state_after EndsClause byte s)
text_from (Names hint) s byte rest = rest (state_after (Names hint) byte s)
text_from (Deletes id) s byte rest = rest (state_after (Deletes id) byte s)
text_from Ends s byte rest = behind (step_of s ∷ []) (rest (state_after Ends byte s))
text_from (Stops flaw) s byte rest = record { steps = []; end = broken_in s.line flaw }

abbrev pub text_of : State → List ℕ → Text
text_of s [] = record { steps = []; end = open_in s }
text_of s (byte ∷ bytes) = text_from (turn_of s byte) s byte (λ next. text_of next bytes)
