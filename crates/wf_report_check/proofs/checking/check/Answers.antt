use Rattle.wf_report.specs.Reports.{report_seen}
use Rattle.wf_report_check.proofs.TruthLemmas.{accepted_is_true}
use Rattle.wf_report_check.proofs.checking.check.Goals as goal

pub returns-clause-truth : goal.returns-clause-truth
returns-clause-truth g c =
    accepted_is_true c.args.task.now c.args.protocol.now.rounds (report_seen c.args.report.now) c.judge_body.result c.requires.built.task c.in_ok-judge_front.ensures c.judge_body.ensures
