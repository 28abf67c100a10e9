use Rattle.std.proofs.Common.{◌≡◌, length}
use Rattle.std.specs.Prelude.{bit_or}
use Rattle.std.specs.Simd.Lanes.{zip2}
use Rattle.wf_base.specs.Set.Parts.{part_values}
use Rattle.wf_lane.specs.Rows.{OccurIn}
use Rattle.wf_lane.proofs.BlockLemmas.{among}
use Rattle.wf_lane.proofs.column.Column.rows_among.Given as goal

abbrev pub invariant-values : goal.invariant-values
invariant-values l =
    record {
      lanes : length l.joined ≡ 8;
      rest : zip2 bit_or l.joined (among l.left l.self.words.items l.start) ≡ among l.values l.self.words.items l.start;
      occur : OccurIn l.self l.left;
    }

abbrev pub decreases-values : goal.decreases-values
decreases-values l = length (part_values l.left)
