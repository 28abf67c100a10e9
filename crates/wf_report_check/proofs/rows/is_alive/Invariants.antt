use Rattle.std.proofs.Common.{◌≡◌, drop, map}
use Rattle.std.specs.Cmp.Lexicographic.{pointwise}
use Rattle.wf_model.specs.Lists.{has}
use Rattle.wf_base.specs.Set.Sets.{values_in}
use Rattle.wf_report_check.proofs.rows.is_alive.Given as goal

abbrev pub invariant-loop-place : goal.invariant-loop-place
invariant-loop-place l = pointwise has (map values_in (drop l.place l.sets)) (drop l.place l.values) ≡ pointwise has (map values_in l.sets) l.values
