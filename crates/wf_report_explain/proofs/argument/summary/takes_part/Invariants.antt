use Rattle.std.proofs.Common.{◌≡◌, drop}
use Rattle.wf_report_explain.specs.Argument.Text.{takes_part}
use Rattle.wf_report_explain.specs.Argument.Used.{marked_scopes}
use Rattle.wf_report_explain.proofs.argument.summary.takes_part.Given as goal

abbrev pub invariant-loop-execution : goal.invariant-loop-execution
invariant-loop-execution l = takes_part (marked_scopes (drop l.execution l.used.marks.now) (drop l.execution l.used.protocol.now.scopes)) l.process ≡ takes_part (marked_scopes l.used.marks.now l.used.protocol.now.scopes) l.process
