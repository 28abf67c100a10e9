use Rattle.std.proofs.Common.{subst, Ok, Err}
use Rattle.wf_report.specs.Reports.{report_seen}
use Rattle.wf_run_branches.specs.Verifying.{IsPartOf}
use Rattle.wf_run_branches.proofs.AcceptedLines.{no_part}
use Rattle.wf_run_branches.proofs.verifying.check_part_text.Goals as goal

pub returns-in_err-report : goal.returns-in_err-report
returns-in_err-report g c =
    let e = c.in_err-report.field-0.0 in
    let is = subst (λ n. IsPartOf c.args.branch.number n c.args.text.now (Err e)) c.requires.branch.count c.in_err-report.ensures.read in
    no_part c.args.branch.number c.args.judge.now.task.now c.args.judge.now.protocol.now.rounds c.args.text.now e c.from_residual.result is c.from_residual.ensures

pub returns : goal.returns
returns g c =
    let report = report_seen c.in_ok-report.report in
    (Ok report, subst (λ n. IsPartOf c.args.branch.number n c.args.text.now (Ok report)) c.requires.branch.count c.in_ok-report.ensures.read, c.accept.ensures)
