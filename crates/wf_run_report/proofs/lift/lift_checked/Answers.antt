use Rattle.wf_report.specs.Reports.{report_seen}
use Rattle.wf_run_report.proofs.LiftSteps.{asks_more, body_lifted, judged_built, judged_holds, own_few, unaccepted}
use Rattle.wf_run.specs.Run.{answered}
use Rattle.wf_run_report.specs.Lifting.{rounds_asked}
use Rattle.wf_run_report.proofs.lift.lift_checked.Goals as goal

pub returns-in_err-protocol : goal.returns-in_err-protocol
returns-in_err-protocol g c =
    let r = report_seen c.args.report.now in
    unaccepted (rounds_asked c.args.rounds r.rounds) c.args.task.now r c.in_err-protocol.field-0.0 c.from_residual.result c.in_err-protocol.ensures c.from_residual.ensures

pub rounds_asked-asked-requires : goal.rounds_asked-asked-requires
rounds_asked-asked-requires g c = own_few c.args.task.now (report_seen c.args.report.now) c.in_ok-protocol.protocol c.in_ok-protocol.ensures c.args.rounds c.rounds.result c.rounds.ensures

pub lift_body-requires-clause-protocol : goal.lift_body-requires-clause-protocol
lift_body-requires-clause-protocol g c = judged_built c.args.task.now (report_seen c.args.report.now) c.in_ok-protocol.protocol c.in_ok-protocol.ensures

pub lift_body-requires-clause-more : goal.lift_body-requires-clause-more
lift_body-requires-clause-more g c =
    asks_more c.args.task.now (report_seen c.args.report.now) c.in_ok-protocol.protocol c.in_ok-protocol.ensures c.args.rounds c.rounds.result c.rounds.ensures
    c.rounds_asked-asked.result c.rounds_asked-asked.ensures c.requires.more

pub lift_body-requires-clause-holds : goal.lift_body-requires-clause-holds
lift_body-requires-clause-holds g c = judged_holds c.args.task.now (report_seen c.args.report.now) c.in_ok-protocol.protocol c.in_ok-protocol.ensures

pub returns : goal.returns
returns g c =
    body_lifted c.args.task.now (report_seen c.args.report.now) c.in_ok-protocol.protocol c.in_ok-protocol.ensures c.args.rounds c.rounds.result c.rounds.ensures
    c.rounds_asked-asked.result c.rounds_asked-asked.ensures (answered c.lift_body.result) c.lift_body.ensures
