use Rattle.std.proofs.Common.{◌≡◌, take}
use Rattle.wf_base.specs.Set.Sets.{box_of}
use Rattle.wf_run_branches.proofs.branch.candidate_sets.Given as goal

abbrev pub invariant-loop-point : goal.invariant-loop-point
invariant-loop-point l = box_of l.sets.items ≡ take l.point l.boxed.sets
