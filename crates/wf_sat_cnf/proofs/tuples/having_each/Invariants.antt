use Rattle.std.proofs.Common.{◌≡◌, take, map, vec_items}
use Rattle.wf_sat_cnf.specs.Groups.{group_of}
use Rattle.wf_sat_cnf.proofs.tuples.having_each.Given as goal

abbrev pub invariant-loop-group : goal.invariant-loop-group
invariant-loop-group l = map vec_items l.found.items ≡ map (group_of l.value) (take l.group-index l.groups)
