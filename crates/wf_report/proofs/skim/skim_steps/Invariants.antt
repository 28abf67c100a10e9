use Rattle.std.proofs.Common.{◌+◌, ◌-◌}
use Rattle.wf_report.specs.Limits.{most_report_lines}
use Rattle.wf_report.proofs.InTurn.{AreSkimmed}
use Rattle.wf_report.proofs.skim.skim_steps.Given as goal

abbrev pub invariant-steps : goal.invariant-steps
invariant-steps g l = AreSkimmed l.part l.initial.source l.source l.initial.window l.window

abbrev pub decreases-steps : goal.decreases-steps
decreases-steps g l = most_report_lines + 1 - l.window.number
