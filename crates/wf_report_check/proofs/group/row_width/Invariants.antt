use Rattle.std.proofs.Common.{◌<◌, ◌≤◌, take}
use Rattle.std.specs.List.{All}
use Rattle.wf_report_check.proofs.group.row_width.Given as goal

abbrev pub invariant-loop-value : goal.invariant-loop-value
invariant-loop-value l = (l.width ≤ l.wider) × All (λ v. v < l.wider) (take l.value-index l.values)
