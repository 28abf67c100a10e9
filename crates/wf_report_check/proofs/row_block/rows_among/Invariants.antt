use Rattle.std.proofs.Common.{◌≡◌, ℕ, length}
use Rattle.std.specs.Prelude.{◌||◌}
use Rattle.wf_model.specs.Lists.{has}
use Rattle.wf_base.specs.Set.Parts.{part_values}
use Rattle.wf_report_check.specs.RowBlocks.{is_one_of}
use Rattle.wf_report_check.proofs.row_block.rows_among.Given as goal

abbrev pub invariant-values : goal.invariant-values
invariant-values l = (r : ℕ) → (has (part_values l.rows) r || is_one_of l.words l.place (part_values l.left) r) ≡ is_one_of l.words l.place (part_values l.values) r

abbrev pub decreases-values : goal.decreases-values
decreases-values l = length (part_values l.left)
