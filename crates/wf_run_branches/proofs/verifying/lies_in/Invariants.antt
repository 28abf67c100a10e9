use Rattle.std.proofs.Common.{◌≡◌, drop, map}
use Rattle.wf_base.specs.Set.Sets.{box_of, values_in}
use Rattle.wf_run_branches.specs.Verifying.{lies_in}
use Rattle.wf_run_branches.proofs.verifying.lies_in.Given as goal

abbrev pub invariant-loop-point : goal.invariant-loop-point
invariant-loop-point l = lies_in (drop l.point l.values) (map values_in (drop l.point l.sets)) ≡ lies_in l.values (box_of l.sets)
