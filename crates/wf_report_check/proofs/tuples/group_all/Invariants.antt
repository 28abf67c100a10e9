use Rattle.std.proofs.Common.{◌≡◌, length}
use Rattle.wf_report_check.specs.Groups.{AreGrouped}
use Rattle.wf_report_check.proofs.tuples.group_all.Given as goal

abbrev pub invariant-loop-i : goal.invariant-loop-i
invariant-loop-i l = (length l.groups.items ≡ l.i) × AreGrouped l.tuples l.groups.items
