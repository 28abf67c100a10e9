use Rattle.std.proofs.Common.{◌≡◌, true, take}
use Rattle.std.specs.List.{list_all}
use Rattle.wf_lane.specs.Wide.{is_below}
use Rattle.wf_lane.proofs.wide.is_row_narrow.Given as goal

abbrev pub invariant-loop-value : goal.invariant-loop-value
invariant-loop-value l = list_all is_below (take l.value-index l.value-items) ≡ true
