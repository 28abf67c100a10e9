use Rattle.std.proofs.Common.{◌≡◌, drop, map}
use Rattle.wf_model.specs.Box.{is_supported}
use Rattle.wf_base.specs.Set.Sets.{values_in}
use Rattle.wf_report_check.proofs.rows.have_support.Given as goal

abbrev pub invariant-loop-row : goal.invariant-loop-row
invariant-loop-row l = is_supported (drop l.row-index l.rows) (map values_in l.sets) l.place l.value ≡ is_supported l.rows (map values_in l.sets) l.place l.value
