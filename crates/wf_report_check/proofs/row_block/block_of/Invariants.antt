use Rattle.std.proofs.Common.{◌≡◌, ◌*◌, length, take}
use Rattle.wf_report_check.specs.RowBlocks.{IsBlock}
use Rattle.wf_report_check.proofs.row_block.block_of.Given as goal

abbrev pub invariant-loop-number : goal.invariant-loop-number
invariant-loop-number l = (length l.words.items ≡ 4 * l.width) × IsBlock (take l.number l.rows) l.words.items
