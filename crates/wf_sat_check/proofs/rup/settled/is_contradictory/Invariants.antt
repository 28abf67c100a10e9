use Rattle.std.proofs.Common.{take}
use Rattle.wf_sat_check.specs.Rup.Settled.{IsConsistentAt}
use Rattle.wf_sat_check.proofs.rup.settled.is_contradictory.Given as goal

abbrev pub invariant-loop-literal : goal.invariant-loop-literal
invariant-loop-literal l = IsConsistentAt l.trail (take l.literal-index l.trail)
