use Rattle.std.proofs.Common.{◌≡◌, ◌++◌, map, flat_map, drop, length, vec_items}
use Rattle.wf_base.specs.Set.Sets.{values_in}
use Rattle.wf_sat_cnf.specs.Found.{found_at, patterns_with, found_with}
use Rattle.wf_sat_cnf.specs.Patterns.{pattern_seen}
use Rattle.wf_sat_cnf.proofs.patterns.add_all_four.Given as goal

abbrev pub invariant-values : goal.invariant-values
invariant-values l =
    map pattern_seen l.found.items ++ flat_map (found_with (values_in l.search.values) l.search.places l.search.from l.search.begun.now l.search.fitting.now (map vec_items l.nearly)) (values_in l.left)
    ≡ map pattern_seen l.fn.found.items ++ patterns_with l.search.places l.search.begun.now (found_at (values_in l.search.values) (drop l.search.from l.search.places) l.search.fitting.now (map vec_items l.nearly))

abbrev pub decreases-values : goal.decreases-values
decreases-values l = length (values_in l.left)
