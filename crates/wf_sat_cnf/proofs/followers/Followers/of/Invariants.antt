use Rattle.std.proofs.Common.{◌≡◌, map, length, take}
use Rattle.wf_base.specs.Set.Sets.{value_limit, values_in}
use Rattle.wf_sat_cnf.specs.Groups.{AreFollowers}
use Rattle.wf_sat_cnf.proofs.followers.Followers.of.Given as goal

abbrev pub invariant-loop-tuple : goal.invariant-loop-tuple
invariant-loop-tuple l = record {
  long : length l.sets.items ≡ value_limit;
  follow : AreFollowers l.place l.next (take l.tuple-index l.tuples) (map values_in l.sets.items);
}
