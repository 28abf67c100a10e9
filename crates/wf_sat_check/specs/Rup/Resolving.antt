-- Where unit propagation from some literals and a negated clause stops before a conflict.
use Rattle.std.specs.Prelude.{◌≡◌, ◌⊎◌, ℕ, true, List, [], ◌∷◌, Contains, length, take}
use Rattle.wf_sat_check.specs.Store.Literals.{has, opposite}
use Rattle.wf_sat_check.specs.Rup.Rat.{resolvent_of}
use Rattle.wf_sat_check.specs.Rup.Settled.{StopsBefore}

-- the literals, the negated clause and what they force are in no conflict
pub record StopsShort (clauses : List (List ℕ)) (trail clause : List ℕ) : Type 0 where
  pub after : List ℕ
  pub front : take (length trail) after ≡ trail
  pub stops : StopsBefore clauses clause after

-- a clause has the negation of a literal, and propagation stops before the resolvent with it
pub record StopsShortOfResolvent (clauses : List (List ℕ)) (trail lemma : List ℕ) (pivot : ℕ) : Type 0 where
  pub clause : List ℕ
  pub stored_is : Contains clauses clause
  pub inside : has clause (opposite pivot) ≡ true
  pub stops : StopsShort clauses trail (resolvent_of lemma (opposite pivot) clause)

-- the lemma has no first literal, or the negation of that literal is true, or propagation stops
-- before a resolvent
abbrev pub StopsShortOfRat : List (List ℕ) → List ℕ → List ℕ → Type 0
StopsShortOfRat clauses trail [] = Unit {0}
StopsShortOfRat clauses trail (pivot ∷ others) =
    (has trail (opposite pivot) ≡ true) ⊎ StopsShortOfResolvent clauses trail (pivot ∷ others) pivot

-- propagation stops before the lemma, and before a resolvent
abbrev pub StopsShortOfBoth : List (List ℕ) → List ℕ → List ℕ → Type 0
StopsShortOfBoth clauses trail lemma = StopsShort clauses trail lemma × StopsShortOfRat clauses trail lemma
