use Rattle.std.proofs.Common.{◌≡◌, take}
use Rattle.wf_sat_check.specs.Store.Index.{first_step, second_step, sum_of_each}
use Rattle.wf_sat_check.proofs.store.hash.hash_of_distinct.Given as goal

abbrev pub invariant-loop-literal : goal.invariant-loop-literal
invariant-loop-literal l = record {
  first : l.first ≡ sum_of_each first_step (take l.literal-index l.literals);
  second : l.second ≡ sum_of_each second_step (take l.literal-index l.literals);
}
