-- What stays known.
use Rattle.std.specs.Prelude.{◌≡◌, ◌⊎◌, ◌++◌, ℕ, true, List, [], ◌∷◌, Contains, length, take}
use Rattle.wf_sat_text.specs.Clauses.Formula.{Clause, Literal}
use Rattle.wf_sat_check.specs.Rup.Seen.{Known}
use Rattle.wf_sat_check.specs.Rup.Stored.{Stored}
use Rattle.wf_sat_check.specs.Store.Literals.{has}

-- the clause is known, or one of its literals is, or all is refuted
abbrev pub IsKept : Clause → Known → Type 0
IsKept clause known =
    (known.is_refuted ≡ true) ⊎ (Contains known.clauses clause ⊎ ((literal : Literal) × Contains clause literal × Contains known.literals literal))

-- nothing that was known is lost
pub record KnowsStill (old new : Known) : Type 0 where
  pub variables : new.variables ≡ old.variables
  pub literals : take (length old.literals) new.literals ≡ old.literals
  pub clauses : take (length old.clauses) new.clauses ≡ old.clauses
  pub refuted : old.is_refuted ≡ true → new.is_refuted ≡ true

-- of clauses, what was known is known, and behind it this one at most
abbrev pub AddsAtMost : Clause → Known → Known → Type 0
AddsAtMost clause old new = (new.clauses ≡ old.clauses) ⊎ (new.clauses ≡ old.clauses ++ clause ∷ [])

-- ---- the same of codes

abbrev pub IsStored : List ℕ → Stored → Type 0
IsStored clause stored =
    (stored.is_refuted ≡ true) ⊎ (Contains stored.clauses clause ⊎ ((literal : ℕ) × (has clause literal ≡ true) × (has stored.literals literal ≡ true)))

pub record StoresStill (old new : Stored) : Type 0 where
  pub literals : take (length old.literals) new.literals ≡ old.literals
  pub clauses : take (length old.clauses) new.clauses ≡ old.clauses
  pub refuted : old.is_refuted ≡ true → new.is_refuted ≡ true

abbrev pub StoresAtMost : List ℕ → Stored → Stored → Type 0
StoresAtMost clause old new = (new.clauses ≡ old.clauses) ⊎ (new.clauses ≡ old.clauses ++ clause ∷ [])
