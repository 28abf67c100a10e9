-- What a clause sees of the minimal forbidden patterns of a rule.
use Rattle.std.specs.Prelude.{List, [], ◌∷◌, map, zip, if◌then◌else◌}
use Rattle.wf_sat_formula.specs.Patterns as pattern
use Rattle.wf_sat_cnf.specs.declared.patterns.Pattern.{Pattern}
use Rattle.wf_sat_cnf.specs.declared.patterns.Patterns.{Patterns}

-- the values with their places
abbrev pub pattern_seen : Pattern → pattern.Pattern
pattern_seen p = zip p.places p.values

-- the empty pattern alone, or the others
abbrev pub patterns_seen : Patterns → List pattern.Pattern
patterns_seen p = if p.nothing_is_allowed then [] ∷ [] else map pattern_seen p.others.items
