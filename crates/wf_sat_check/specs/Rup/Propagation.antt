-- What unit propagation may find out from clauses and the literals that are true.
use Rattle.std.specs.Prelude.{◌≡◌, ℕ, Bool, true, false, List, length, take}
use Rattle.std.specs.List.{list_any}
use Rattle.wf_sat_check.specs.Store.Literals.{has, opposite}
use Rattle.wf_sat_text.specs.Clauses.Formula.{Assignment}
use Rattle.wf_sat_text.specs.Drat.Codes.{hold_codes, holds_code, is_model_of_codes, satisfies_codes}
use Rattle.wf_sat_check.specs.declared.rup.propagation.WatchOutcome.{WatchOutcome}
use Rattle.wf_sat_check.specs.declared.rup.propagation.WatchOutcome.TheVariants.{Gone, Stays, Forces, Fails}

-- a literal of the clause is true
abbrev pub is_satisfied_by : List ℕ → List ℕ → Bool
is_satisfied_by trail clause = list_any (has trail) clause

-- the literal is one of the clause, and not false
pub record IsOpen (trail clause : List ℕ) (literal : ℕ) : Type 0 where
  pub inside : has clause literal ≡ true
  pub unfalsified : has trail (opposite literal) ≡ false

-- where the literals of the trail hold, the clause isn't satisfied
abbrev pub MakesEachFalse : List ℕ → List ℕ → Type 0
MakesEachFalse trail clause = (a : Assignment) → hold_codes a trail ≡ true → satisfies_codes a clause ≡ false

-- where the literals of the trail hold, the clause is satisfied by this one of its literals alone
abbrev pub LeavesAlone : List ℕ → List ℕ → ℕ → Type 0
LeavesAlone trail clause literal =
    (a : Assignment) → hold_codes a trail ≡ true → satisfies_codes a clause ≡ true → holds_code a literal ≡ true

-- a model of the old clauses that satisfies this one is a model of the new ones
abbrev pub AddsClause : List ℕ → List (List ℕ) → List (List ℕ) → Type 0
AddsClause clause old new =
    (a : Assignment) → is_model_of_codes a old ≡ true → satisfies_codes a clause ≡ true → is_model_of_codes a new ≡ true

-- each model of the clauses in which these literals hold satisfies the clause
abbrev pub Implies : List (List ℕ) → List ℕ → List ℕ → Type 0
Implies clauses trail clause =
    (a : Assignment) → is_model_of_codes a clauses ≡ true → hold_codes a trail ≡ true → satisfies_codes a clause ≡ true

-- the literal holds in each model of the clauses in which these literals hold
abbrev pub IsForced : List (List ℕ) → List ℕ → ℕ → Type 0
IsForced clauses trail literal =
    (a : Assignment) → is_model_of_codes a clauses ≡ true → hold_codes a trail ≡ true → holds_code a literal ≡ true

-- in no model of the clauses these literals hold
abbrev pub Conflicts : List (List ℕ) → List ℕ → Type 0
Conflicts clauses trail = (a : Assignment) → is_model_of_codes a clauses ≡ true → hold_codes a trail ≡ true → ⊥

-- there are further literals, and the clauses force them
pub record Extends (clauses : List (List ℕ)) (old new : List ℕ) : Type 0 where
  pub front : take (length old) new ≡ old
  pub forced : (a : Assignment) → is_model_of_codes a clauses ≡ true → hold_codes a old ≡ true → hold_codes a new ≡ true

-- what became of a clause is so because of the clauses and the literals that are true
abbrev pub IsSound : List (List ℕ) → List ℕ → WatchOutcome → Type 0
IsSound clauses trail Gone = Unit {0}
IsSound clauses trail (Stays literal) = Unit {0}
IsSound clauses trail (Forces literal) = IsForced clauses trail literal
IsSound clauses trail Fails = Conflicts clauses trail
