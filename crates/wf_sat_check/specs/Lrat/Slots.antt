-- How clauses lie in one list of numbers, and what the code says of them.
use Rattle.std.specs.Prelude.{◌≡◌, ℕ, zero, suc, ◌+◌, ◌-◌, ◌≤◌, ◌==◌, true, List, [], ◌∷◌, Option, Some, None, if◌then◌else◌, get_or, map}
use Rattle.std.specs.List.{slice_range}
use Rattle.wf_sat_text.specs.Clauses.Formula.{Clause, Literal}
use Rattle.wf_sat_text.specs.Drat.Codes.{code_of, literal_of}
use Rattle.wf_sat_check.specs.Lrat.Hints.{Followed, goes_on, has_literal, stops}
use Rattle.wf_sat_check.specs.declared.lrat.follow.LratOutcome.{LratOutcome}
use Rattle.wf_sat_check.specs.declared.lrat.follow.LratOutcome.TheVariants.{Stops, GoesOn}
use Rattle.wf_sat_check.specs.declared.lrat.scan.Opened.{Opened}
use Rattle.wf_sat_check.specs.declared.lrat.scan.Opened.TheVariants.{Nothing, One, Several}

abbrev pub clause_of : List ℕ → Clause
clause_of codes = map literal_of codes

-- the literals whose codes begin at this place: before them stands how many they are
abbrev pub codes_at : List ℕ → ℕ → List ℕ
codes_at arena place = slice_range arena place (place + get_or arena (place - 1) 0)

-- the clause at a place; at 0 there is none
abbrev pub slot_at : List ℕ → ℕ → Option Clause
slot_at arena place = if place == 0 then None else Some (clause_of (codes_at arena place))

abbrev pub slots_in : List ℕ → List ℕ → List (Option Clause)
slots_in arena places = map (slot_at arena) places

-- the clauses at these places lie one behind the other, from this word on and before another one
abbrev pub AreLaid : List ℕ → ℕ → List ℕ → ℕ → Type 0
AreLaid arena from [] to = from ≤ to
AreLaid arena from (zero ∷ places) to = AreLaid arena from places to
AreLaid arena from (suc at ∷ places) to = (from ≤ at) × AreLaid arena (suc at + get_or arena at 0) places to

-- no word lies between them, nor before the first or behind the last
abbrev pub ArePacked : List ℕ → ℕ → List ℕ → ℕ → Type 0
ArePacked arena from [] to = from ≡ to
ArePacked arena from (zero ∷ places) to = ArePacked arena from places to
ArePacked arena from (suc at ∷ places) to = (from ≡ at) × ArePacked arena (suc at + get_or arena at 0) places to

-- a number of each literal by its code: each clause that has the literal has that number from 0, or
-- a higher one
abbrev pub AreFirsts : List ℕ → List (Option Clause) → Type 0
AreFirsts firsts slots = (l n : ℕ) → has_literal (get_or slots n None) (literal_of l) ≡ true → get_or firsts l (suc n) ≤ n

-- how many open literals there are, and which one if there is one
abbrev pub opened_of : List Literal → Opened
opened_of [] = Nothing
opened_of (l ∷ []) = One (code_of l)
opened_of (l ∷ m ∷ more) = Several

-- what hints come to behind which these literals are true
abbrev pub told : LratOutcome → List Literal → Followed
told (Stops verdict) trail = stops verdict
told GoesOn trail = goes_on trail
