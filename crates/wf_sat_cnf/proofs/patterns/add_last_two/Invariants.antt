use Rattle.std.proofs.Common.{◌≡◌, ◌+◌, ◌++◌, List, map, flat_map, drop, length, slice_index}
use Rattle.wf_model.specs.Task.{Tuple}
use Rattle.wf_base.specs.Set.Sets.{values_in}
use Rattle.wf_sat_cnf.specs.Found.{found_at, patterns_with, found_with}
use Rattle.wf_sat_cnf.specs.Groups.{AreAllowed}
use Rattle.wf_sat_cnf.specs.Patterns.{pattern_seen}
use Rattle.wf_sat_cnf.proofs.patterns.add_last_two.Given as goal

abbrev pub invariant-values : goal.invariant-values
invariant-values l = (nearly : List (List Tuple)) → AreAllowed (slice_index l.search.places l.search.from) (slice_index l.search.places (l.search.from + 1)) (values_in l.search.values) nearly l.near →
    map pattern_seen l.found.items ++ flat_map (found_with (values_in l.search.values) l.search.places l.search.from l.search.begun.now l.search.fitting.now nearly) (values_in l.left)
    ≡ map pattern_seen l.fn.found.items ++ patterns_with l.search.places l.search.begun.now (found_at (values_in l.search.values) (drop l.search.from l.search.places) l.search.fitting.now nearly)

abbrev pub decreases-values : goal.decreases-values
decreases-values l = length (values_in l.left)
