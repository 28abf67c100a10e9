use Rattle.std.proofs.Common.{◌≡◌, true, take}
use Rattle.std.specs.List.{list_all}
use Rattle.wf_lane.specs.Wide.{is_below}
use Rattle.wf_lane.proofs.wide.is_narrow.Given as goal

abbrev pub invariant-loop-row : goal.invariant-loop-row
invariant-loop-row l = list_all (list_all is_below) (take l.row-index l.rows) ≡ true
