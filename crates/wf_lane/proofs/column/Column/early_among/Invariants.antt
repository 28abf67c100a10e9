use Rattle.std.proofs.Common.{◌≡◌, length}
use Rattle.std.specs.Prelude.{bit_or}
use Rattle.wf_base.specs.Set.Parts.{part_values}
use Rattle.wf_lane.specs.Rows.{OccurIn}
use Rattle.wf_lane.proofs.FewLemmas.{early}
use Rattle.wf_lane.proofs.column.Column.early_among.Given as goal

abbrev pub invariant-values : goal.invariant-values
invariant-values l =
    record {
      rest : bit_or l.joined (early l.left l.self.words.items) ≡ early l.values l.self.words.items;
      occur : OccurIn l.self l.left;
    }

abbrev pub decreases-values : goal.decreases-values
decreases-values l = length (part_values l.left)
