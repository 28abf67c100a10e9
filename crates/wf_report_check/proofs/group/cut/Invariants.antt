use Rattle.std.proofs.Common.{◌≡◌, length}
use Rattle.wf_report_check.specs.RowBlocks.{AreBlocks}
use Rattle.wf_report_check.proofs.group.cut.Given as goal

abbrev pub invariant-loop-number : goal.invariant-loop-number
invariant-loop-number l = (length l.blocks.items ≡ l.number) × AreBlocks l.rows l.blocks.items
