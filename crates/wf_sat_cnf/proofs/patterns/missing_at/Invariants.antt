use Rattle.std.proofs.Common.{◌≡◌, take, map, filter, vec_items}
use Rattle.wf_base.specs.Set.Sets.{values_in}
use Rattle.wf_sat_cnf.specs.Found.{occurs_in_each}
use Rattle.wf_sat_cnf.proofs.patterns.missing_at.Given as goal

abbrev pub invariant-loop-tuples : goal.invariant-loop-tuples
invariant-loop-tuples l = values_in l.missing ≡ filter (occurs_in_each (map vec_items (take l.tuples-index l.nearly)) l.place) (values_in l.fn.values)
