use Rattle.wf_report.proofs.Fills.{IsDraining, calls_to_end}
use Rattle.wf_report.proofs.window.Window.drain.Given as goal

abbrev pub invariant-fills : goal.invariant-fills
invariant-fills g l = IsDraining l.initial.source l.source l.initial.self l.self

abbrev pub decreases-fills : goal.decreases-fills
decreases-fills g l = calls_to_end l.self
