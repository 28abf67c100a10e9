-- What unit propagation gives, and what follows by it.
use Rattle.std.specs.Prelude.{◌≡◌, ◌⊎◌, ◌++◌, true, List, Contains, map}
use Rattle.wf_sat_text.specs.Clauses.Formula.{Clause, Literal, negation}
use Rattle.wf_sat_check.specs.Rup.Seen.{Known}

-- a literal is forced that is assumed, or that is the only one of a clause
-- whose negation isn't forced
pub data IsForcedBy (clauses : List Clause) (assumed : List Literal) : Literal → Type 0 where
  given : (l : Literal) → Contains assumed l → IsForcedBy clauses assumed l
  last : (clause : Clause) (l : Literal) → Contains clauses clause → Contains clause l
      → ((m : Literal) → Contains clause m → (m ≡ l → ⊥) → IsForcedBy clauses assumed (negation m)) → IsForcedBy clauses assumed l

-- the negation of each literal of the clause is forced
abbrev pub IsFalsified : List Clause → List Literal → Clause → Type 0
IsFalsified clauses assumed clause = (m : Literal) → Contains clause m → IsForcedBy clauses assumed (negation m)

-- a clause is false, or a literal is forced beside its negation
abbrev pub HasConflict : List Clause → List Literal → Type 0
HasConflict clauses assumed =
    ((clause : Clause) × Contains clauses clause × IsFalsified clauses assumed clause)
    ⊎ ((l : Literal) × IsForcedBy clauses assumed l × IsForcedBy clauses assumed (negation l))

-- what is known is refuted, or propagation from it and the negated clause finds a conflict
abbrev pub FollowsByPropagation : Known → Clause → Type 0
FollowsByPropagation known clause =
    (known.is_refuted ≡ true) ⊎ HasConflict known.clauses (known.literals ++ map negation clause)

-- propagation doesn't give the clause
abbrev pub DoesNotFollow : Known → Clause → Type 0
DoesNotFollow known clause = FollowsByPropagation known clause → ⊥
