use Rattle.wf_report.specs.Reports.{body_of}
use Rattle.wf_report_check.proofs.checking.judge_front.Goals as goal

pub returns : goal.returns
returns c = c.judge_header.ensures (body_of c.args.report.now.body)
