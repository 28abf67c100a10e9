use Rattle.std.proofs.Common.{ap}
use Rattle.std.specs.Prelude.{◌||◌}
use Rattle.wf_model.specs.Lists.{has}
use Rattle.wf_base.specs.Set.Parts.{part_values}
use Rattle.wf_base.proofs.OfSet.Lemmas.{values_of_nothing}
use Rattle.wf_report_check.specs.RowBlocks.{is_one_of}
use Rattle.wf_report_check.proofs.row_block.rows_among.Goals as goal

pub values-init : goal.values-init
values-init c = λ r. ap (λ vs. has vs r || is_one_of c.args.words.now c.args.place (part_values c.args.values) r) values_of_nothing
