use Rattle.std.proofs.Common.{◌+◌, ◌-◌}
use Rattle.wf_report.specs.Limits.{most_report_lines}
use Rattle.wf_report.proofs.InTurn.{AreKeptSoFar}
use Rattle.wf_report.proofs.lines.read_values.Given as goal

abbrev pub invariant-values : goal.invariant-values
invariant-values g l = AreKeptSoFar l.most l.initial.source l.source l.initial.window l.window l.values.items

abbrev pub decreases-values : goal.decreases-values
decreases-values g l = most_report_lines + 1 - l.window.number
