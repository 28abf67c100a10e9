use Rattle.std.proofs.Common.{◌≡◌, ◌∙◌}
use Rattle.wf_report.specs.Reports.{report_seen}
use Rattle.wf_run_report.proofs.TrimmedTexts.{unchanged}
use Rattle.wf_run_report.proofs.ShorterReports.{back_numbered, back_whole, is_shortened, stays_numbered}
use Rattle.wf_run_report.proofs.trim.shorten.Goals as goal

pub returns-then-len-lines-clause-shorter : goal.returns-then-len-lines-clause-shorter
returns-then-len-lines-clause-shorter g c = unchanged c.args.task.now (report_seen c.args.report) c.requires.faultless

pub check-requires-clause-few : goal.check-requires-clause-few
check-requires-clause-few g c κs within =
    stays_numbered
    c.args.report
    c.exchange_lines-shorter.result.0
    c.in_ok-kept.kept.items
    c.lines-lines.result.now
    c.in_ok-kept.ensures
    c.lines-lines.ensures
    c.exchange_lines-shorter.ensures.report
    c.requires.few

pub returns-in-Ok-clause-shorter : goal.returns-in-Ok-clause-shorter
returns-in-Ok-clause-shorter g c =
    is_shortened
    c.args.report
    c.exchange_lines-shorter.result.0
    c.in_ok-kept.kept.items
    c.lines-lines.result.now
    c.in_ok-kept.ensures
    c.lines-lines.ensures
    c.exchange_lines-shorter.ensures.report
    c.args.task.now
    c.args.protocol.now.rounds
    c.requires.built.rounds_are
    c.requires.faultless
    c.in-Ok.ensures.fault
    c.in-Ok.ensures.truth

pub returns-in-Ok-clause-few : goal.returns-in-Ok-clause-few
returns-in-Ok-clause-few g c =
    stays_numbered
    c.args.report
    c.exchange_lines-shorter.result.0
    c.in_ok-kept.kept.items
    c.lines-lines.result.now
    c.in_ok-kept.ensures
    c.lines-lines.ensures
    c.exchange_lines-shorter.ensures.report
    c.requires.few

-- the lines that were taken out are put back
pub returns-in-Err : goal.returns-in-Err
returns-in-Err g c =
    let same : report_seen c.exchange_lines-whole.result.0 ≡ report_seen c.args.report = c.exchange_lines-whole.ensures.report ∙ c.exchange_lines-shorter.ensures.own in
    record {
      shorter = back_whole c.args.report c.exchange_lines-whole.result.0 same c.args.task.now c.requires.faultless;
      few = back_numbered c.args.report c.exchange_lines-whole.result.0 same c.requires.few;
    }
