-- Which clauses have the same literals.
use Rattle.std.specs.Prelude.{◌≡◌, ℕ, true, List, All}
use Rattle.wf_sat_check.specs.Store.Literals.{has}

-- the list has each of these
abbrev pub IsAmong : List ℕ → List ℕ → Type 0
IsAmong codes others = All (λ l. has codes l ≡ true) others

-- the literals that were seen are those of the clause
abbrev pub IsSeenOf : List ℕ → List ℕ → Type 0
IsSeenOf clause seen = (l : ℕ) → has seen l ≡ has clause l

-- each clause has the literals of the other
abbrev pub AreAlike : List ℕ → List ℕ → Type 0
AreAlike clause other = IsAmong clause other × IsAmong other clause
