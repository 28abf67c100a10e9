use Rattle.std.proofs.Common.{ap, ◌∙◌}
use Rattle.std.specs.Prelude.{◌&&◌}
use Rattle.wf_model.specs.Lists.{has}
use Rattle.wf_base.specs.Set.Parts.{part_values}
use Rattle.wf_report_check.specs.RowBlocks.{is_one_of}
use Rattle.wf_report_check.proofs.RowBlockLemmas.{has_met}
use Rattle.wf_report_check.proofs.row_block.narrowed.Goals as goal

pub returns : goal.returns
returns c = λ r.
    ap (λ vs. has vs r) c.intersection.ensures
    ∙ has_met (part_values c.args.alive) (part_values c.rows_among.result) r
    ∙ ap (λ b. has (part_values c.args.alive) r && b) (c.rows_among.ensures r ∙ ap (λ vs. is_one_of c.args.words.now c.args.place vs r) c.low_set64.ensures)
