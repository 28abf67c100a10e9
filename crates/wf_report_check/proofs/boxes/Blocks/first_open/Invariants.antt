use Rattle.std.proofs.Common.{◌≡◌}
use Rattle.wf_report_check.proofs.FirstLemmas.{IsSettled}
use Rattle.wf_report_check.proofs.boxes.Blocks.first_open.Given as goal

abbrev pub invariant-loop-point : goal.invariant-loop-point
invariant-loop-point l = IsSettled l.point l.self.sets.items × (l.self ≡ l.initial.self)
