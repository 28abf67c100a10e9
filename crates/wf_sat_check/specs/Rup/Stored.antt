-- What clauses see of what is stored, with literals by their codes.
use Rattle.std.specs.Prelude.{◌≡◌, ℕ, Bool, true, false, List, [], ◌∷◌}
use Rattle.wf_sat_text.specs.Clauses.Formula.{Assignment}
use Rattle.wf_sat_text.specs.Drat.Codes.{hold_codes, holds_code, is_model_of_codes, satisfies_codes}

-- what is stored: the literals that are true, the clauses, and whether they were refuted
pub record Stored : Type 0 where
  pub literals : List ℕ
  pub clauses : List (List ℕ)
  pub is_refuted : Bool

-- the assignment is a model of all that is stored; of what was refuted there is none
pub record IsModelOfStored (a : Assignment) (stored : Stored) : Type 0 where
  pub literals : hold_codes a stored.literals ≡ true
  pub clauses : is_model_of_codes a stored.clauses ≡ true
  pub unrefuted : stored.is_refuted ≡ false

-- each assignment is a model of what is stored
abbrev pub StoresNothing : Stored → Type 0
StoresNothing stored = (a : Assignment) → IsModelOfStored a stored

-- each model of what was stored before in which the literal holds is one of what is stored after
abbrev pub KeepsStoredModelsWith : ℕ → Stored → Stored → Type 0
KeepsStoredModelsWith literal old new = (a : Assignment) → IsModelOfStored a old → holds_code a literal ≡ true → IsModelOfStored a new

-- what is stored has no model
abbrev pub HasNoStoredModel : Stored → Type 0
HasNoStoredModel stored = (a : Assignment) → IsModelOfStored a stored → ⊥

-- each model of what was stored before is one of what is stored after
abbrev pub KeepsStoredModels : Stored → Stored → Type 0
KeepsStoredModels old new = (a : Assignment) → IsModelOfStored a old → IsModelOfStored a new

-- each model of what was stored before that satisfies the clause is one of what is stored after
abbrev pub KeepsStoredModelsOf : List ℕ → Stored → Stored → Type 0
KeepsStoredModelsOf clause old new = (a : Assignment) → IsModelOfStored a old → satisfies_codes a clause ≡ true → IsModelOfStored a new

-- each model of what is stored satisfies the clause
abbrev pub StoredEntails : Stored → List ℕ → Type 0
StoredEntails stored clause = (a : Assignment) → IsModelOfStored a stored → satisfies_codes a clause ≡ true

-- the clauses that have a literal
abbrev pub kept_of : List (List ℕ) → List (List ℕ)
kept_of [] = []
kept_of ([] ∷ clauses) = kept_of clauses
kept_of ((literal ∷ literals) ∷ clauses) = (literal ∷ literals) ∷ kept_of clauses
