use Rattle.wf_run_verify.proofs.AheadReports.{header_clear, header_refused}
use Rattle.wf_run_verify.proofs.as_read.prepare.Goals as goal

pub returns-in_err-judge_header : goal.returns-in_err-judge_header
returns-in_err-judge_header c =
    header_refused c.args.task.now c.args.header c.in_ok-protocol.protocol c.in_ok-protocol.ensures c.in_err-judge_header.field-0.0 c.from_residual-in_err-judge_header.result c.from_residual-in_err-judge_header.ensures c.in_err-judge_header.ensures

pub returns : goal.returns
returns c = header_clear c.args.task.now c.args.header c.in_ok-protocol.protocol c.in_ok-protocol.ensures c.in_ok-judge_header.ensures
