use Rattle.wf_report.proofs.Fills.{IsGrown, calls_to_line}
use Rattle.wf_report.proofs.window.Window.seek.Given as goal

abbrev pub invariant-fills : goal.invariant-fills
invariant-fills g l = IsGrown l.initial.source l.source l.initial.self l.self

abbrev pub decreases-fills : goal.decreases-fills
decreases-fills g l = calls_to_line l.self
