use Rattle.std.proofs.Common.{length, arith}
use Rattle.wf_report_explain.specs.Argument.Text.{is_in}
use Rattle.wf_report_explain.proofs.OfArgument.Usage.{marks_all}
use Rattle.wf_base.proofs.OfStreams.Lemmas.{none_given}
use Rattle.wf_report_explain.proofs.argument.used.used_executions.Goals as goal

pub returns : goal.returns
returns c = marks_all c.loop-line.marks.items (length c.args.protocol.now.scopes) is_in c.args.lines.now c.loop-line.line-index (omega (arith, c.loop-line-test.false)) c.loop-line.invariant.long c.loop-line.invariant.each

pub returns-in_err-marks : goal.returns-in_err-marks
returns-in_err-marks c = none_given c.from_residual.result _ c.from_residual.ensures.0
