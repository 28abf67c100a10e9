use Rattle.std.proofs.Common.{◌≡◌, ◌*◌, List, drop, length, map}
use Rattle.wf_model.specs.Task.{Tuple}
use Rattle.wf_model.specs.Box.{is_supported}
use Rattle.wf_base.specs.Set.Sets.{values_in}
use Rattle.wf_report_check.specs.RowBlocks.{IsCut}
use Rattle.wf_report_check.proofs.group.any_supports.Given as goal

abbrev pub invariant-loop-block : goal.invariant-loop-block
invariant-loop-block l =
    (rows : List Tuple) → IsCut (length l.sets) rows l.blocks
    → is_supported (drop (64 * l.block-index) rows) (map values_in l.sets) l.place l.value ≡ is_supported rows (map values_in l.sets) l.place l.value
