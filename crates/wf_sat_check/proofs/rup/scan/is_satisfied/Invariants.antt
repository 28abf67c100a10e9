use Rattle.std.proofs.Common.{◌≡◌, false, take}
use Rattle.wf_sat_check.specs.Rup.Propagation.{is_satisfied_by}
use Rattle.wf_sat_check.proofs.rup.scan.is_satisfied.Given as goal

abbrev pub invariant-loop-literal : goal.invariant-loop-literal
invariant-loop-literal l = is_satisfied_by l.trail (take l.literal-index l.clause) ≡ false
