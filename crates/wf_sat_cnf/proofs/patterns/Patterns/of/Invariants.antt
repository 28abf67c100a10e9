use Rattle.std.proofs.Common.{◌≡◌, map, flat_map, take}
use Rattle.wf_base.specs.Set.Sets.{values_in}
use Rattle.wf_sat_cnf.specs.Found.{choices, patterns_on}
use Rattle.wf_sat_cnf.specs.Patterns.{pattern_seen}
use Rattle.wf_sat_cnf.proofs.patterns.Patterns.of.Given as goal

abbrev pub invariant-loop-number : goal.invariant-loop-number
invariant-loop-number l = map pattern_seen l.others.items ≡ flat_map (patterns_on l.size (values_in l.fn.values) l.tuples) (take l.number choices)
