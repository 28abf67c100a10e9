use Rattle.std.proofs.Common.{◌≡◌, ℕ, ◌<◌, map, take, vec_items}
use Rattle.wf_base.specs.Set.Sets.{value_limit}
use Rattle.wf_sat_cnf.specs.Found.{having}
use Rattle.wf_sat_cnf.specs.Groups.{group_of}
use Rattle.wf_sat_cnf.proofs.tuples.group_each.Given as goal

abbrev pub invariant-loop-tuples : goal.invariant-loop-tuples
invariant-loop-tuples l = (v : ℕ) → v < value_limit → map (group_of v) l.groups.items ≡ map (having l.place v) (map vec_items (take l.tuples-index l.lists))
