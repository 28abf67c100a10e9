-- Which clause a deletion takes.
use Rattle.std.specs.Prelude.{◌≡◌, ◌⊎◌, ◌++◌, ◌∷◌, ℕ, List, All, Contains}
use Rattle.wf_sat_text.specs.Clauses.Formula.{Clause}
use Rattle.wf_sat_check.specs.Rup.Seen.{Known}
use Rattle.wf_sat_check.specs.Rup.Stored.{Stored}
use Rattle.wf_sat_check.specs.Store.Alike.{AreAlike}

-- each clause has the literals of the other
abbrev pub HaveSameLiterals : Clause → Clause → Type 0
HaveSameLiterals clause other = All (Contains clause) other × All (Contains other) clause

-- a clause that is known has these literals
pub record HasAlike (clause : Clause) (known : Known) : Type 0 where
  pub other : Clause
  pub known_is : Contains known.clauses other
  pub same : HaveSameLiterals clause other

-- one clause with these literals is no longer known
pub record IsWithout (clause : Clause) (old new : Known) : Type 0 where
  pub front : List Clause
  pub deleted : Clause
  pub back : List Clause
  pub same : HaveSameLiterals clause deleted
  pub before : old.clauses ≡ front ++ deleted ∷ back
  pub after : new.clauses ≡ front ++ back
  pub literals : new.literals ≡ old.literals
  pub is_refuted : new.is_refuted ≡ old.is_refuted
  pub variables : new.variables ≡ old.variables

-- nothing changes, or one clause with these literals is no longer known
abbrev pub Deletes : Clause → Known → Known → Type 0
Deletes clause old new = (new ≡ old) ⊎ IsWithout clause old new

-- ---- the same of codes

-- a clause that is stored has these literals
pub record HasAlikeStored (clause : List ℕ) (stored : Stored) : Type 0 where
  pub other : List ℕ
  pub stored_is : Contains stored.clauses other
  pub same : AreAlike clause other

pub record IsStoredWithout (clause : List ℕ) (old new : Stored) : Type 0 where
  pub front : List (List ℕ)
  pub deleted : List ℕ
  pub back : List (List ℕ)
  pub same : AreAlike clause deleted
  pub before : old.clauses ≡ front ++ deleted ∷ back
  pub after : new.clauses ≡ front ++ back
  pub literals : new.literals ≡ old.literals
  pub is_refuted : new.is_refuted ≡ old.is_refuted

abbrev pub DeletesStored : List ℕ → Stored → Stored → Type 0
DeletesStored clause old new = (new ≡ old) ⊎ IsStoredWithout clause old new
