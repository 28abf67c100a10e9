use Rattle.std.proofs.Common.{◌+◌, ◌-◌}
use Rattle.wf_report_check.specs.Left.{claimed}
use Rattle.wf_report_check.specs.Rules.{problem_in}
use Rattle.wf_report.specs.Limits.{most_report_lines}
use Rattle.wf_report_check.proofs.JudgedSteps.{AreTaken}
use Rattle.wf_report_check.proofs.judging.judge_steps.Given as goal

abbrev pub invariant-steps : goal.invariant-steps
invariant-steps g l = AreTaken l.part (problem_in l.rules) (claimed l.rules.claim) l.initial.source l.source l.initial.window l.window l.initial.checker l.checker

abbrev pub decreases-steps : goal.decreases-steps
decreases-steps g l = most_report_lines + 1 - l.window.number
