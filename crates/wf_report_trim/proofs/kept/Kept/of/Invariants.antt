use Rattle.std.proofs.Common.{take}
use Rattle.wf_report_trim.specs.Among.{AreAmong}
use Rattle.wf_report_trim.proofs.kept.Kept.of.Given as goal

abbrev pub invariant-loop-number : goal.invariant-loop-number
invariant-loop-number l = AreAmong l.kept.items (take l.number l.lines)
