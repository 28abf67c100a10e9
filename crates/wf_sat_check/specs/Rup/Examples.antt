-- Worked examples of what is known beside a formula.
use Rattle.std.proofs.Common.{[], ◌∷◌, inl, inr, refl}
use Rattle.wf_sat_text.specs.Clauses.Formula.{Clause, neg, pos}
use Rattle.wf_sat_check.specs.Rup.Posed.{AreSomeOf}

abbrev first : Clause
first = pos 1 ∷ neg 2 ∷ []

abbrev second : Clause
second = pos 3 ∷ []

-- clauses may be left out
pub the_second_alone : AreSomeOf (second ∷ []) (first ∷ second ∷ [])
the_second_alone = inr (inl (refl, tt))

-- none stands there more often
pub not_twice : AreSomeOf (first ∷ first ∷ []) (first ∷ []) → ⊥
not_twice (inl (same, none)) = none
not_twice (inr none) = none
