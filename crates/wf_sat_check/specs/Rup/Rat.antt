-- Which lemmas a proof may add: those that follow by unit propagation, and resolution asymmetric
-- tautologies (RAT), which need not follow.
use Rattle.std.specs.Prelude.{◌≡◌, ◌⊎◌, ◌++◌, ◌==◌, ℕ, true, false, not, List, [], ◌∷◌, Contains, filter}
use Rattle.wf_sat_text.specs.Clauses.Formula.{Assignment, Clause, Literal, negation, satisfies}
use Rattle.wf_sat_text.specs.Drat.Codes.{code_of, satisfies_codes}
use Rattle.wf_sat_check.specs.Rup.Propagation.{Implies}
use Rattle.wf_sat_check.specs.Store.Literals.{has, opposite}
use Rattle.wf_sat_check.specs.Rup.Seen.{IsModelOf, Known}
use Rattle.wf_sat_check.specs.Rup.Settled.{Refuses}
use Rattle.wf_sat_check.specs.Rup.Stored.{IsModelOfStored, Stored}
use Rattle.wf_sat_check.specs.Rup.Unit.{DoesNotFollow, FollowsByPropagation}

-- each model of what is known can be changed into one that satisfies the clause too
abbrev pub IsRedundant : Known → Clause → Type 0
IsRedundant known clause = (a : Assignment) → IsModelOf a known → (b : Assignment) × IsModelOf b known × (satisfies b clause ≡ true)

-- if what was known before has a model, what is known after has one
abbrev pub KeepsSatisfiable : Known → Known → Type 0
KeepsSatisfiable old new = (a : Assignment) → IsModelOf a old → (b : Assignment) × IsModelOf b new

-- ---- resolution asymmetric tautologies

-- a clause that is kept, or a literal that holds, as a clause of its own
abbrev pub IsKnownClause : Known → Clause → Type 0
IsKnownClause known clause = Contains known.clauses clause ⊎ ((l : Literal) × Contains known.literals l × (clause ≡ l ∷ []))

-- the clause without this literal
abbrev pub without : Literal → Clause → Clause
without l clause = filter (λ m. not (code_of m == code_of l)) clause

-- the lemma, and the other literals of a clause that has the negation of this literal
abbrev pub resolvent : Clause → Literal → Clause → Clause
resolvent lemma pivot clause = lemma ++ without (negation pivot) clause

-- the lemma is RAT on its first literal: its resolvent with each known clause that has the negation
-- of that literal follows by unit propagation
abbrev pub IsRat : Known → Clause → Type 0
IsRat known [] = ⊥
IsRat known (pivot ∷ others) =
    (clause : Clause) → IsKnownClause known clause → Contains clause (negation pivot)
    → FollowsByPropagation known (resolvent (pivot ∷ others) pivot clause)

-- the lemma may not be added
pub record IsUnjustified (known : Known) (lemma : Clause) : Type 0 where
  pub does_not_follow : DoesNotFollow known lemma
  pub is_not_rat : IsRat known lemma → ⊥

-- ---- the same of codes

abbrev pub IsStoredRedundant : Stored → List ℕ → Type 0
IsStoredRedundant stored clause =
    (a : Assignment) → IsModelOfStored a stored → (b : Assignment) × IsModelOfStored b stored × (satisfies_codes b clause ≡ true)

abbrev pub KeepsStoredSatisfiable : Stored → Stored → Type 0
KeepsStoredSatisfiable old new = (a : Assignment) → IsModelOfStored a old → (b : Assignment) × IsModelOfStored b new

-- the clause without this literal
abbrev pub others_than : ℕ → List ℕ → List ℕ
others_than literal clause = filter (λ l. not (l == literal)) clause

-- the lemma, and the other literals of a clause that has the negation of one of its literals
abbrev pub resolvent_of : List ℕ → ℕ → List ℕ → List ℕ
resolvent_of lemma negated clause = lemma ++ others_than negated clause

-- the negation of this literal is not true, and with each clause that has the negation the lemma
-- has a resolvent that is implied
pub record ResolvesOn (clauses : List (List ℕ)) (trail lemma : List ℕ) (pivot : ℕ) : Type 0 where
  pub inside : has lemma pivot ≡ true
  pub unfalsified : has trail (opposite pivot) ≡ false
  pub each : (clause : List ℕ) → Contains clauses clause → has clause (opposite pivot) ≡ true
      → Implies clauses trail (resolvent_of lemma (opposite pivot) clause)

-- the lemma follows, or its resolvents on one of its literals do
abbrev pub IsJustified : List (List ℕ) → List ℕ → List ℕ → Type 0
IsJustified clauses trail lemma = Implies clauses trail lemma ⊎ ((pivot : ℕ) × ResolvesOn clauses trail lemma pivot)

-- a clause has the negation of a literal, and the resolvent with that clause is refused
pub record RefusesResolvent (stored : Stored) (lemma : List ℕ) (pivot : ℕ) : Type 0 where
  pub clause : List ℕ
  pub stored_is : Contains stored.clauses clause
  pub inside : has clause (opposite pivot) ≡ true
  pub refuses : Refuses stored (resolvent_of lemma (opposite pivot) clause)

-- the lemma has no first literal, or that literal is false, or a resolvent is refused
abbrev pub RefusesRat : Stored → List ℕ → Type 0
RefusesRat stored [] = Unit {0}
RefusesRat stored (pivot ∷ others) =
    (has stored.literals (opposite pivot) ≡ true) ⊎ RefusesResolvent stored (pivot ∷ others) pivot

-- the lemma is refused, and its resolvents too
abbrev pub RefusesBoth : Stored → List ℕ → Type 0
RefusesBoth stored lemma = Refuses stored lemma × RefusesRat stored lemma
