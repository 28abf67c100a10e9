-- Reading several bytes of a piece at once.
use Rattle.std.specs.Prelude.{◌≡◌, ◌<◌, ◌≤◌, ℕ, Bool, true, false, List, Option, Some, None, drop, get_or, length}
use Rattle.std.specs.Char.{is_ascii_digit}
use Rattle.wf_sat_text.specs.Lrat.Text.{State, after, text_of}
use Rattle.wf_sat_text.specs.declared.lrat.numbers.NumberRead.{NumberRead}
use Rattle.wf_sat_text.specs.declared.lrat.reader.LratToken.TheVariants.{Number}
use Rattle.wf_sat_text.specs.declared.lrat.reader.LratTransition.{LratTransition}
use Rattle.wf_sat_text.specs.declared.lrat.reader.LratTransition.TheVariants.{GoesOn, Begins, BeginsDeletion, Takes, EndsClause, Names, Deletes, Ends, Stops}

-- the bytes from one place on, read in this state, say what those from
-- another one on say, read in another state
abbrev pub LeadsTo : List ℕ → State → ℕ → State → ℕ → Type 0
LeadsTo bytes state from next to = text_of state (drop from bytes) ≡ text_of next (drop to bytes)

-- a number is read, and so far it is this one
abbrev pub in_number : State → Bool → ℕ → State
in_number state is_negative value = after (GoesOn (Number is_negative value)) state

-- the bytes between are digits, and come to this number
pub record AreDigits (bytes : List ℕ) (from : ℕ) (digits : NumberRead) : Type 0 where
  pub forward : from ≤ digits.end
  pub within : digits.end ≤ length bytes
  pub first : from < digits.end → is_ascii_digit (get_or bytes from 0) ≡ true
  pub same : (state : State) → (is_negative : Bool)
      → LeadsTo bytes (in_number state is_negative 0) from (in_number state is_negative digits.value) digits.end

-- nothing changes, or some bytes are read from a place on, in this state
abbrev pub Moves : List ℕ → State → ℕ → State → State → Option ℕ → Type 0
Moves bytes state from old new None = new ≡ old
Moves bytes state from old new (Some to) = (from < to) × (to ≤ length bytes) × LeadsTo bytes state from new to

-- nothing changes, or a number is read whose first digit stands here
abbrev pub MovesOverNumber : List ℕ → Bool → ℕ → State → State → Option ℕ → Type 0
MovesOverNumber bytes is_negative from old new None = new ≡ old
MovesOverNumber bytes is_negative from old new (Some to) =
    (is_ascii_digit (get_or bytes from 0) ≡ true) × Moves bytes (in_number old is_negative 0) from old new (Some to)

-- whether a transition ends a step, or the text
abbrev pub is_last : LratTransition → Bool
is_last Ends = true
is_last (Stops flaw) = true
is_last (GoesOn reading) = false
is_last (Begins id) = false
is_last BeginsDeletion = false
is_last (Takes literal) = false
is_last EndsClause = false
is_last (Names hint) = false
is_last (Deletes id) = false
