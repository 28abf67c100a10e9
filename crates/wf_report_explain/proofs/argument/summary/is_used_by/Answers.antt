use Rattle.std.proofs.Common.{[], false, get_or}
use Rattle.wf_report_explain.proofs.OfArgument.Summaries.{is_there}
use Rattle.wf_report_explain.proofs.argument.summary.is_used_by.Goals as goal

pub returns-then-used-execution : goal.returns-then-used-execution
returns-then-used-execution c =
    is_there (get_or c.args.used.now.marks.now c.args.execution false) c.is_some.result c.point_at.result (get_or c.args.used.now.protocol.now.scopes c.args.execution []) c.args.process c.if-used-execution.true c.is_some.ensures c.point_at.ensures
