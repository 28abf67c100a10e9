use Rattle.std.proofs.Common.{refl}
use Rattle.wf_lane.proofs.WideLaws.{none_in_four}
use Rattle.wf_lane.proofs.wide.revise_rows.Goals as goal

pub loop-row-init : goal.loop-row-init
loop-row-init c =
    record {
      supported = none_in_four c.empty.result c.empty-2.result c.empty-3.result c.empty-4.result c.empty.ensures c.empty-2.ensures c.empty-3.ensures c.empty-4.ensures;
      alive = refl;
    }
