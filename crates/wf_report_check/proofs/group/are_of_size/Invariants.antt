use Rattle.std.proofs.Common.{take}
use Rattle.wf_report_check.specs.RowBlocks.{AreOfSize}
use Rattle.wf_report_check.proofs.group.are_of_size.Given as goal

abbrev pub invariant-loop-row : goal.invariant-loop-row
invariant-loop-row l = AreOfSize l.size (take l.row-index l.rows)
