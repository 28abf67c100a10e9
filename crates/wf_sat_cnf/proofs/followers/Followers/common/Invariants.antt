use Rattle.std.proofs.Common.{◌≡◌, map, length, take, vec_items}
use Rattle.wf_base.specs.Set.Sets.{value_limit, values_in}
use Rattle.wf_sat_cnf.specs.Groups.{AreAllowed}
use Rattle.wf_sat_cnf.proofs.followers.Followers.common.Given as goal

abbrev pub invariant-loop-tuples : goal.invariant-loop-tuples
invariant-loop-tuples l = record {
  long : length l.sets.items ≡ value_limit;
  allowed : AreAllowed l.place l.next (values_in l.fn.set) (map vec_items (take l.tuples-index l.lists)) (map values_in l.sets.items);
}
