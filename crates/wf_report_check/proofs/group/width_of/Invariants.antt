use Rattle.std.proofs.Common.{take}
use Rattle.wf_report_check.specs.RowBlocks.{AreNarrow}
use Rattle.wf_report_check.proofs.group.width_of.Given as goal

abbrev pub invariant-loop-row : goal.invariant-loop-row
invariant-loop-row l = AreNarrow l.width (take l.row-index l.rows)
