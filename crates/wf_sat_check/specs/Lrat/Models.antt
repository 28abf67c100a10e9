-- Which assignments a ledger keeps.
use Rattle.std.specs.Prelude.{◌≡◌, true, false, Option, Some, None, All}
use Rattle.wf_sat_text.specs.Clauses.Formula.{Assignment, Clause, Formula, IsUnsatisfiable, satisfies}
use Rattle.wf_sat_check.specs.Lrat.Ledger.{Ledger, ledger_of}

-- the assignment satisfies the clause, if there is one
abbrev pub IsSatisfied : Assignment → Option Clause → Type 0
IsSatisfied a None = Unit {0}
IsSatisfied a (Some clause) = satisfies a clause ≡ true

-- the assignment satisfies all clauses; of what was refuted there is no model
pub record IsModelOf (a : Assignment) (ledger : Ledger) : Type 0 where
  pub clauses : All (IsSatisfied a) ledger.slots
  pub unrefuted : ledger.is_refuted ≡ false

-- no assignment satisfies all clauses
abbrev pub HasNoModel : Ledger → Type 0
HasNoModel ledger = (a : Assignment) → IsModelOf a ledger → ⊥

-- each model of the first ledger is a model of the second one
abbrev pub KeepsModels : Ledger → Ledger → Type 0
KeepsModels old new = (a : Assignment) → IsModelOf a old → IsModelOf a new

-- each model of the ledger can be changed into one that satisfies the clause too
abbrev pub IsRedundant : Ledger → Clause → Type 0
IsRedundant ledger clause = (a : Assignment) → IsModelOf a ledger → (b : Assignment) × IsModelOf b ledger × (satisfies b clause ≡ true)

-- if the first ledger has a model, the second one has one
abbrev pub KeepsSatisfiable : Ledger → Ledger → Type 0
KeepsSatisfiable old new = (a : Assignment) → IsModelOf a old → (b : Assignment) × IsModelOf b new

-- a formula whose clauses are a ledger without a model has none
abbrev pub RefutesFormula : Formula → Type 0
RefutesFormula f = HasNoModel (ledger_of f) → IsUnsatisfiable f
