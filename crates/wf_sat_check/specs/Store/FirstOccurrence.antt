-- For each literal a number that no clause with the literal is below.
use Rattle.std.specs.Prelude.{◌≡◌, ◌≤◌, ℕ, suc, true, List, [], get_or}
use Rattle.wf_sat_check.specs.Store.Literals.{has}

-- each clause that has a literal has the literal's number, or a higher one
abbrev pub AreFirsts : List ℕ → List (List ℕ) → Type 0
AreFirsts firsts clauses = (l n : ℕ) → has (get_or clauses n []) l ≡ true → get_or firsts l (suc n) ≤ n

-- no literal's number is higher than before
abbrev pub IsLowered : List ℕ → List ℕ → Type 0
IsLowered old new = (l n : ℕ) → get_or old l (suc n) ≤ n → get_or new l (suc n) ≤ n
