use Rattle.std.proofs.Common.{◌≡◌, drop, map}
use Rattle.wf_model.specs.Check.{is_exactly}
use Rattle.wf_base.specs.Set.Sets.{box_of, values_in}
use Rattle.wf_report_check.proofs.boxes.Blocks.is_exactly.Given as goal

abbrev pub invariant-loop-point : goal.invariant-loop-point
invariant-loop-point l = is_exactly (drop l.point l.values) (map values_in (drop l.point l.self.sets.items)) ≡ is_exactly l.values (box_of l.self.sets.items)
