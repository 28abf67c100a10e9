use Rattle.std.proofs.Common.{◌≡◌, map, length, take, vec_items}
use Rattle.wf_base.specs.Set.Sets.{value_limit}
use Rattle.wf_sat_cnf.specs.Groups.{AreGroups}
use Rattle.wf_sat_cnf.proofs.groups.Groups.of.Given as goal

abbrev pub invariant-loop-tuple : goal.invariant-loop-tuple
invariant-loop-tuple l = record {
  long : length l.lists.items ≡ value_limit;
  groups : AreGroups l.place (take l.tuple-index l.tuples) (map vec_items l.lists.items);
}
