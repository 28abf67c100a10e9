use Rattle.std.proofs.Common.{◌≡◌, ◌+◌, map, flat_map, length}
use Rattle.wf_model.specs.Lists.{below}
use Rattle.wf_base.specs.Set.Sets.{values_in}
use Rattle.wf_sat_cnf.specs.Exclusions.{exclusions_at}
use Rattle.wf_sat_cnf.proofs.exclusions.count_exclusions.Given as goal

abbrev pub invariant-loop-point : goal.invariant-loop-point
invariant-loop-point l =
    l.total ≡ l.clauses + length (flat_map (exclusions_at (values_in l.values) (map values_in l.sets)) (below l.point))
