-- What clauses see of a checker, and which assignments it keeps.
use Rattle.std.specs.Prelude.{◌≡◌, ℕ, Bool, true, false, List, All, map}
use Rattle.wf_sat_text.specs.Clauses.Formula.{Assignment, Clause, Literal, SatisfiesAll, holds, satisfies}
use Rattle.wf_sat_text.specs.Drat.Codes.{literal_of}
use Rattle.wf_sat_check.specs.Rup.Stored.{Stored}

-- what a checker knows: the largest number of a variable, literals, clauses,
-- and whether they were refuted
pub record Known : Type 0 where
  pub variables : ℕ
  pub literals : List Literal
  pub clauses : List Clause
  pub is_refuted : Bool

-- what is known where these codes are stored
abbrev pub known_of : ℕ → Stored → Known
known_of variables s = record {
  variables = variables;
  literals = map literal_of s.literals;
  clauses = map (λ clause. map literal_of clause) s.clauses;
  is_refuted = s.is_refuted;
}

-- the assignment is a model of all that is known; of what was refuted there is none
pub record IsModelOf (a : Assignment) (known : Known) : Type 0 where
  pub literals : All (λ literal. holds a literal ≡ true) known.literals
  pub clauses : SatisfiesAll a known.clauses
  pub unrefuted : known.is_refuted ≡ false

-- each assignment is a model of what is known
abbrev pub KnowsNothing : Known → Type 0
KnowsNothing known = (a : Assignment) → IsModelOf a known

-- what is known has no model
abbrev pub HasNoModel : Known → Type 0
HasNoModel known = (a : Assignment) → IsModelOf a known → ⊥

-- each model of what was known before is a model of what is known after
abbrev pub KeepsModels : Known → Known → Type 0
KeepsModels old new = (a : Assignment) → IsModelOf a old → IsModelOf a new

-- each model of what was known before that satisfies the clause is a model of what is known after
abbrev pub KeepsModelsOf : Clause → Known → Known → Type 0
KeepsModelsOf clause old new = (a : Assignment) → IsModelOf a old → satisfies a clause ≡ true → IsModelOf a new

-- each model of what is known satisfies the clause
abbrev pub Entails : Known → Clause → Type 0
Entails known clause = (a : Assignment) → IsModelOf a known → satisfies a clause ≡ true
