use Rattle.std.proofs.Common.{Err, sym, subst}
use Rattle.std.proofs.lemmas.Result.{err_from_is_err_and}
use Rattle.wf_run.specs.Run.{answered}
use Rattle.wf_run_verify.specs.AsRead.{ChecksOn, ReadsReport}
use Rattle.wf_run_verify.proofs.AheadTexts.{can_drain, report_amiss, report_cut, report_told, report_unread}
use Rattle.wf_run_verify.proofs.as_read.verify_in_window.Goals as goal

pub drain-requires : goal.drain-requires
drain-requires g c =
    let q = c.args.asked.now in
    can_drain q.rounds q.task.now c.args.source.now c.read_report.new.source c.args.window.now c.read_report.new.window c.in-Err-BadReport.fault
    c.requires.can (subst (λ s. ReadsReport q.rounds q.task.now c.args.source.now c.read_report.new.source c.args.window.now c.read_report.new.window (Err s)) c.in-Err-BadReport.field-0-is c.in-Err-BadReport.ensures.read)

pub returns-in-Ok : goal.returns-in-Ok
returns-in-Ok g c =
    let q = c.args.asked.now in
    report_told q.rounds q.task.now c.args.source.now c.read_report.new.source c.args.window.now c.read_report.new.window c.requires.first c.in-Ok.reported (answered c.with_text.result)
    c.in-Ok.ensures.read c.in-Ok.ensures.ended c.in-Ok.ensures.can c.with_text.ensures

pub returns-in-Err-SourceFailed : goal.returns-in-Err-SourceFailed
returns-in-Err-SourceFailed g c =
    let q = c.args.asked.now in
    subst (λ e. ChecksOn q.rounds q.task.now c.args.source.now c.read_report.new.source c.args.window.now (Err e)) (sym c.from.ensures)
    (report_unread q.rounds q.task.now c.args.source.now c.args.window.now c.requires.first c.read_report.new.source c.read_report.new.window c.in-Err-SourceFailed.fault (subst (λ s. ReadsReport q.rounds q.task.now c.args.source.now c.read_report.new.source c.args.window.now c.read_report.new.window (Err s)) c.in-Err-SourceFailed.field-0-is c.in-Err-SourceFailed.ensures.read))

pub returns-in_ok-drain-in-Err-BadReport : goal.returns-in_ok-drain-in-Err-BadReport
returns-in_ok-drain-in-Err-BadReport g c =
    let q = c.args.asked.now in
    subst (λ e. ChecksOn q.rounds q.task.now c.args.source.now c.drain.new.source c.args.window.now (Err e)) (sym c.from-in-Err-BadReport.ensures)
    (report_amiss q.rounds q.task.now c.args.source.now c.args.window.now c.requires.first c.read_report.new.source c.drain.new.source c.read_report.new.window c.drain.new.self c.in-Err-BadReport.fault (subst (λ s. ReadsReport q.rounds q.task.now c.args.source.now c.read_report.new.source c.args.window.now c.read_report.new.window (Err s)) c.in-Err-BadReport.field-0-is c.in-Err-BadReport.ensures.read)
    c.in_ok-drain-in-Err-BadReport.ensures)

pub returns-in_err-drain-in-Err-BadReport : goal.returns-in_err-drain-in-Err-BadReport
returns-in_err-drain-in-Err-BadReport g c =
    let q = c.args.asked.now in
    let p = err_from_is_err_and c.from_residual.result c.from_residual.ensures.1 in
    rw (p.1, p.2) (report_cut q.rounds q.task.now c.args.source.now c.args.window.now c.requires.first c.read_report.new.source c.drain.new.source c.read_report.new.window c.drain.new.self c.in-Err-BadReport.fault
    c.in_err-drain-in-Err-BadReport.field-0.0 (subst (λ s. ReadsReport q.rounds q.task.now c.args.source.now c.read_report.new.source c.args.window.now c.read_report.new.window (Err s)) c.in-Err-BadReport.field-0-is c.in-Err-BadReport.ensures.read) c.in_err-drain-in-Err-BadReport.ensures)
