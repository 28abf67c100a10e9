use Rattle.std.proofs.Common.{◌≡◌, take}
use Rattle.wf_report_check.specs.Places.{tuples_of}
use Rattle.wf_report_check.proofs.support.support_all.Given as goal

abbrev pub invariant-loop-number : goal.invariant-loop-number
invariant-loop-number l = l.supports.items ≡ tuples_of (take l.number l.task.delta)
