use Rattle.std.proofs.Common.{◌<◌}
use Rattle.wf_tree_elimination.proofs.ring.power_in.Given as goal

abbrev pub invariant-loop : goal.invariant-loop
invariant-loop l = 0 < l.power
