use Rattle.std.proofs.Common.{◌≡◌, ℕ, ◌&&◌, length, not}
use Rattle.wf_model.specs.Lists.{has}
use Rattle.wf_base.specs.Set.Parts.{part_values}
use Rattle.wf_lane.specs.Rows.{OccurIn, is_met}
use Rattle.wf_lane.proofs.column.Column.unsupported.Given as goal

abbrev pub invariant-values : goal.invariant-values
invariant-values l =
    let met = is_met l.live l.self.words.items l.start in
    record {
      rest : (v : ℕ) → (has (part_values l.unmet) v && not (has (part_values l.left) v && met v)) ≡ (has (part_values l.values) v && not (met v));
      occur : OccurIn l.self l.left;
    }

abbrev pub decreases-values : goal.decreases-values
decreases-values l = length (part_values l.left)
