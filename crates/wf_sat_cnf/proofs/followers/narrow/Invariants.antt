use Rattle.std.proofs.Common.{map}
use Rattle.wf_base.specs.Set.Sets.{values_in}
use Rattle.wf_sat_cnf.proofs.GroupLemmas.{AreNarrowed}
use Rattle.wf_sat_cnf.proofs.followers.narrow.Given as goal

abbrev pub invariant-loop-value : goal.invariant-loop-value
invariant-loop-value l = AreNarrowed l.value (map values_in l.fn.sets) l.others (map values_in l.sets)
