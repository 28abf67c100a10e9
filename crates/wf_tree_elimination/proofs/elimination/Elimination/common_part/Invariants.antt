use Rattle.std.proofs.Common.{◌<◌}
use Rattle.wf_tree_elimination.proofs.elimination.Elimination.common_part.Given as goal

abbrev pub invariant-loop-entry : goal.invariant-loop-entry
invariant-loop-entry l = 0 < l.least
