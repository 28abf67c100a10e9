-- Where unit propagation stops.
use Rattle.std.specs.Prelude.{◌≡◌, ◌==◌, ◌⊎◌, ℕ, true, false, List, All, Contains}
use Rattle.wf_sat_text.specs.Clauses.Formula.{Assignment}
use Rattle.wf_sat_text.specs.Drat.Codes.{hold_codes}
use Rattle.wf_sat_check.specs.Rup.Propagation.{IsOpen, LeavesAlone, MakesEachFalse, is_satisfied_by}
use Rattle.wf_sat_check.specs.Store.Literals.{has, opposite}
use Rattle.wf_sat_check.specs.Rup.Stored.{Stored}
use Rattle.wf_sat_check.specs.declared.rup.settled.Standing.{Standing}
use Rattle.wf_sat_check.specs.declared.rup.settled.Standing.TheVariants.{Settled, Forces, Fails}

-- none of these literals is false
abbrev pub IsConsistentAt : List ℕ → List ℕ → Type 0
IsConsistentAt trail literals = All (λ l. has trail (opposite l) ≡ false) literals

-- each of these literals is false
abbrev pub IsFalseOn : List ℕ → List ℕ → Type 0
IsFalseOn trail literals = All (λ l. has trail (opposite l) ≡ true) literals

-- no literal is true beside its negation
abbrev pub IsConsistent : List ℕ → Type 0
IsConsistent trail = IsConsistentAt trail trail

-- these literals hold under no assignment
abbrev pub HoldsNever : List ℕ → Type 0
HoldsNever trail = (a : Assignment) → hold_codes a trail ≡ true → ⊥

-- two literals of the clause are not false
pub record IsOpenTwice (trail clause : List ℕ) : Type 0 where
  pub first : ℕ
  pub second : ℕ
  pub first_open : IsOpen trail clause first
  pub second_open : IsOpen trail clause second
  pub apart : (second == first) ≡ false

-- a literal of the clause is true, or two are not false
abbrev pub IsSettled : List ℕ → List ℕ → Type 0
IsSettled trail clause = (is_satisfied_by trail clause ≡ true) ⊎ IsOpenTwice trail clause

-- the literal is the only one of the clause that is not false, and it isn't true
pub record IsUnit (trail clause : List ℕ) (literal : ℕ) : Type 0 where
  pub inside : has clause literal ≡ true
  pub unsatisfied : is_satisfied_by trail clause ≡ false
  pub alone : LeavesAlone trail clause literal

-- what is said of a clause is so
abbrev pub Stands : List ℕ → List ℕ → Standing → Type 0
Stands trail clause Settled = IsSettled trail clause
Stands trail clause (Forces literal) = IsUnit trail clause literal
Stands trail clause Fails = MakesEachFalse trail clause

-- all clauses are settled, or one of them comes to this
abbrev pub StandsOneOf : List (List ℕ) → List ℕ → Standing → Type 0
StandsOneOf clauses trail Settled = All (IsSettled trail) clauses
StandsOneOf clauses trail (Forces literal) = (clause : List ℕ) × Contains clauses clause × IsUnit trail clause literal
StandsOneOf clauses trail Fails = (clause : List ℕ) × Contains clauses clause × MakesEachFalse trail clause

-- nothing more is forced, and nothing is in conflict
pub record Stops (clauses : List (List ℕ)) (trail : List ℕ) : Type 0 where
  pub consistent : IsConsistent trail
  pub settled : All (IsSettled trail) clauses

-- nothing more is forced, and each literal of the clause is false
pub record StopsBefore (clauses : List (List ℕ)) (clause trail : List ℕ) : Type 0 where
  pub stops : Stops clauses trail
  pub negated : IsFalseOn trail clause

-- propagation from what is stored and the negated clause stops before a conflict
pub record Refuses (stored : Stored) (clause : List ℕ) : Type 0 where
  pub trail : List ℕ
  pub includes : All (λ l. has trail l ≡ true) stored.literals
  pub stops : StopsBefore stored.clauses clause trail
  pub unrefuted : stored.is_refuted ≡ false
