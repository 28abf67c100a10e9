-- Propositional formulas in conjunctive normal form.
use Rattle.std.specs.Prelude.{◌≡◌, ◌≤◌, ℕ, Bool, true, not, List, All}
use Rattle.std.specs.List.{list_any}

-- a variable, by its number from 1 on, or its negation
pub data Literal : Type 0 where
  pos : (variable : ℕ) → Literal
  neg : (variable : ℕ) → Literal

-- literals of which one at least is to hold
abbrev pub Clause : Type 0
Clause = List Literal

-- clauses which are all to hold, on the variables 1 to some number
pub record Formula : Type 0 where
  pub variables : ℕ
  pub clauses : List Clause

-- which variables are true
abbrev pub Assignment : Type 0
Assignment = ℕ → Bool

abbrev pub holds : Assignment → Literal → Bool
holds a (pos n) = a n
holds a (neg n) = not (a n)

-- a literal of the clause holds
abbrev pub satisfies : Assignment → Clause → Bool
satisfies a clause = list_any (holds a) clause

-- each of the clauses is satisfied
abbrev pub SatisfiesAll : Assignment → List Clause → Type 0
SatisfiesAll a clauses = All (λ clause. satisfies a clause ≡ true) clauses

abbrev pub IsModel : Assignment → Formula → Type 0
IsModel a f = SatisfiesAll a f.clauses

abbrev pub HasModel : Formula → Type 0
HasModel f = (a : Assignment) × IsModel a f

abbrev pub IsUnsatisfiable : Formula → Type 0
IsUnsatisfiable f = (a : Assignment) → IsModel a f → ⊥

-- ---- literals

abbrev pub variable_of : Literal → ℕ
variable_of (pos n) = n
variable_of (neg n) = n

abbrev pub negation : Literal → Literal
negation (pos n) = neg n
negation (neg n) = pos n

-- the literal is on the variables 1 to this number
abbrev pub IsOn : ℕ → Literal → Type 0
IsOn variables l = (1 ≤ variable_of l) × (variable_of l ≤ variables)

-- its literals are on its variables
abbrev pub NamesItsVariables : Formula → Type 0
NamesItsVariables f = All (λ clause. All (IsOn f.variables) clause) f.clauses
