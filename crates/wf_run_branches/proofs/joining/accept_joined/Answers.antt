use Rattle.std.proofs.Common.{arith}
use Rattle.wf_report.specs.Reports.{AreNumbered, body_of, with_header}
use Rattle.wf_run_branches.specs.Joining.{lines_in}
use Rattle.wf_run_branches.proofs.JoinSteps.{as_many, faulty, right}
use Rattle.wf_run_branches.proofs.joining.accept_joined.Goals as goal

pub returns-in_err-check : goal.returns-in_err-check
returns-in_err-check g c =
    let body = body_of c.args.body in
    let many = as_many c.args.body in
    let counted = c.count_lines.ensures in
    let low = c.if-count_lines-ge-MAX_LINES.false in
    let few : AreNumbered (lines_in body) = omega (arith, many, counted, low) in
    faulty c.args.task.now c.args.protocol.now.rounds body (with_header c.about-header.result body) c.in_err-check.field-0.0 c.from_residual.result few (c.about-header.ensures body) c.in_err-check.ensures.fault c.from_residual.ensures

pub returns : goal.returns
returns g c =
    let body = body_of c.args.body in
    let many = as_many c.args.body in
    let counted = c.count_lines.ensures in
    let low = c.if-count_lines-ge-MAX_LINES.false in
    let few : AreNumbered (lines_in body) = omega (arith, many, counted, low) in
    right c.args.task.now c.args.protocol.now.rounds body c.args.protocol.now (with_header c.about-header.result body) c.in_ok-into_text.field-0.items c.requires few (c.about-header.ensures body) c.in_ok-check.ensures.fault
    c.in_ok-check.ensures.truth c.in_ok-into_text.ensures.text
