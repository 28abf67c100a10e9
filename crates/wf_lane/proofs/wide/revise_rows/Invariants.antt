use Rattle.std.proofs.Common.{◌≡◌, take}
use Rattle.std.specs.Prelude.{count_by}
use Rattle.wf_lane.specs.Wide.{AreSupported, lives}
use Rattle.wf_lane.proofs.wide.revise_rows.Given as goal

abbrev pub invariant-loop-row : goal.invariant-loop-row
invariant-loop-row l =
    record {
      supported : AreSupported l.masks (take l.row-index l.rows) l.fn.sets;
      alive : l.alive ≡ count_by (lives l.fn.sets) (take l.row-index l.rows);
    }
