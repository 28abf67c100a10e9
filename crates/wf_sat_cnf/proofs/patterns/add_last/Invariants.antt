use Rattle.std.proofs.Common.{◌≡◌, ◌∷◌, ◌++◌, [], map, zip, length}
use Rattle.wf_base.specs.Set.Sets.{values_in}
use Rattle.wf_sat_cnf.specs.Patterns.{pattern_seen}
use Rattle.wf_sat_cnf.proofs.patterns.add_last.Given as goal

abbrev pub invariant-values : goal.invariant-values
invariant-values l =
    map pattern_seen l.found.items ++ map (λ a. zip l.places (l.begun ++ a ∷ [])) (values_in l.left)
    ≡ map pattern_seen l.initial.found.items ++ map (λ a. zip l.places (l.begun ++ a ∷ [])) (values_in l.fn.last)

abbrev pub decreases-values : goal.decreases-values
decreases-values l = length (values_in l.left)
