use Rattle.std.proofs.Common.{◌≤◌, vec_capacity}
use Rattle.wf_lane.specs.Rows.{AreApart}
use Rattle.wf_lane.proofs.column.Places.of.Given as goal

abbrev pub invariant-values : goal.invariant-values
invariant-values l =
    record {
      apart : AreApart l.value l.values l.words l.starts.items l.end;
      room : 64 ≤ vec_capacity l.starts;
    }
