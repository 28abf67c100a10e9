use Rattle.std.proofs.Common.{◌≡◌, ◌≤◌, ◌+◌, drop}
use Rattle.wf_report_explain.specs.Argument.Text.{count_of_size}
use Rattle.wf_report_explain.specs.Argument.Used.{marked_scopes}
use Rattle.wf_report_explain.proofs.argument.summary.count_of_size.Given as goal

abbrev pub invariant-loop-execution : goal.invariant-loop-execution
invariant-loop-execution l = record {
  counted : l.count + count_of_size (marked_scopes (drop l.execution l.used.marks.now) (drop l.execution l.used.protocol.now.scopes)) l.size ≡ count_of_size (marked_scopes l.used.marks.now l.used.protocol.now.scopes) l.size;
  few : l.count ≤ l.execution;
}
