use Rattle.std.proofs.Common.{Ok, Err, refl, subst}
use Rattle.wf_report.specs.Reports.{report_seen}
use Rattle.wf_run.specs.declared.fault.RunFault.TheVariants.{OutOfMemory}
use Rattle.wf_run_branches.specs.Verifying.{ChecksIn}
use Rattle.wf_run_branches.proofs.JoinSteps.{no_body, no_report, same_part}
use Rattle.wf_run_branches.proofs.parts.body_in.Goals as goal

pub returns-in_err-branch : goal.returns-in_err-branch
returns-in_err-branch g c =
    no_body c.args.number c.args.judge.now.task.now c.args.judge.now.protocol.now.rounds c.args.text.now OutOfMemory c.from_residual.result tt c.from_residual.ensures

pub returns-in_err-report : goal.returns-in_err-report
returns-in_err-report g c =
    let t = c.args.judge.now.task.now in
    let r = c.args.judge.now.protocol.now.rounds in
    let branch = c.in_ok-branch.ensures t r c.requires.protocol.task c.requires.cover in
    let e = c.in_err-report.field-0.0 in
    no_body c.args.number t r c.args.text.now e c.from_residual-in_err-report.result (same_part c.args.number t r c.args.text.now c.in_ok-branch.branch branch (Err e) c.in_err-report.ensures.read) c.from_residual-in_err-report.ensures

pub returns-in_err-check_part : goal.returns-in_err-check_part
returns-in_err-check_part g c =
    let t = c.args.judge.now.task.now in
    let r = c.args.judge.now.protocol.now.rounds in
    let branch = c.in_ok-branch.ensures t r c.requires.protocol.task c.requires.cover in
    let report = report_seen c.in_ok-report.report in
    let e = c.in_err-check_part.field-0.0 in
    no_report c.args.number t r c.args.text.now report e c.from_residual-in_err-check_part.result (same_part c.args.number t r c.args.text.now c.in_ok-branch.branch branch (Ok report) c.in_ok-report.ensures.read)
    (subst (λ k. ChecksIn k t r report (Err e)) branch.number c.in_err-check_part.ensures) c.from_residual-in_err-check_part.ensures

pub returns : goal.returns
returns g c =
    let t = c.args.judge.now.task.now in
    let r = c.args.judge.now.protocol.now.rounds in
    let branch = c.in_ok-branch.ensures t r c.requires.protocol.task c.requires.cover in
    let report = report_seen c.in_ok-report.report in
    (Ok report, same_part c.args.number t r c.args.text.now c.in_ok-branch.branch branch (Ok report) c.in_ok-report.ensures.read, (subst (λ k. ChecksIn k t r report (Ok tt)) branch.number c.in_ok-check_part.ensures, refl))
