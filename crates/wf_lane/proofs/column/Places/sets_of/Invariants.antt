use Rattle.std.proofs.Common.{◌≡◌, length, take}
use Rattle.wf_lane.specs.Words.{ors}
use Rattle.wf_lane.specs.Rows.{AreMarked}
use Rattle.wf_lane.proofs.column.Places.sets_of.Given as goal

abbrev pub invariant-loop-row : goal.invariant-loop-row
invariant-loop-row l =
    record {
      long : length l.sets.items ≡ l.self.end;
      marked : AreMarked (ors l.words) l.self (take l.row l.words) l.sets.items;
    }
