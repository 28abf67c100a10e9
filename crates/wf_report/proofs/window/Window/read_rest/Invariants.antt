use Rattle.wf_report.proofs.Fills.{IsCollecting, calls_to_end}
use Rattle.wf_report.proofs.window.Window.read_rest.Given as goal

abbrev pub invariant-fills : goal.invariant-fills
invariant-fills g l = IsCollecting l.fn.source l.source l.fn.self l.self l.text.items

abbrev pub decreases-fills : goal.decreases-fills
decreases-fills g l = calls_to_end l.self
