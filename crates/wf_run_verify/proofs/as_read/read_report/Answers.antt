use Rattle.std.proofs.Common.{Ok, Err, arith, subst, sym}
use Rattle.wf_model.specs.Problem.{problem_of}
use Rattle.wf_report_check.specs.Judged.{IsBodyFault}
use Rattle.wf_run_verify.specs.AsRead.{IsReported}
use Rattle.wf_report.specs.Reports.{with_header}
use Rattle.wf_report.specs.Parts.{IsAnyBody, body_then, report_with, whole_report}
use Rattle.wf_report.proofs.Lemmas.{then_reads}
use Rattle.wf_run_verify.proofs.AheadReports.{behind_header, body_stop, report_read, report_stop, reported}
use Rattle.wf_run_verify.proofs.as_read.read_report.Goals as goal

pub skim_body-requires-clause-number : goal.skim_body-requires-clause-number
skim_body-requires-clause-number g c =
    let one = c.in_ok-header.ensures.number in
    let two = c.in_ok-answer.ensures.number in
    let start = c.requires.number in
    omega (arith, one, two, start)

pub judge_body-requires-clause-number : goal.judge_body-requires-clause-number
judge_body-requires-clause-number g c =
    let one = c.in_ok-header.ensures.number in
    let two = c.in_ok-answer.ensures.number in
    let start = c.requires.number in
    omega (arith, one, two, start)

pub returns-in_err-header-clause-read : goal.returns-in_err-header-clause-read
returns-in_err-header-clause-read g c =
    let q = c.args.asked.now in
    report_stop q.rounds q.task.now behind_header c.args.source.now c.read_header.new.source c.args.window.now c.read_header.new.window c.in_err-header.field-0.0 c.from_residual.result c.from_residual.ensures
    (c.in_err-header.ensures.header behind_header)

pub returns-in_err-answer-clause-read : goal.returns-in_err-answer-clause-read
returns-in_err-answer-clause-read g c =
    let q = c.args.asked.now in
    let h = c.in_ok-header.header in
    report_stop q.rounds q.task.now (body_then (report_with h)) c.args.source.now c.read_answer.new.source c.args.window.now c.read_answer.new.window c.in_err-answer.field-0.0
    c.from_residual-in_err-answer.result c.from_residual-in_err-answer.ensures
    (then_reads whole_report behind_header (body_then (report_with h)) c.args.source.now c.read_header.new.source c.read_answer.new.source c.args.window.now c.read_header.new.window c.read_answer.new.window
    h (Err c.in_err-answer.field-0.0) (c.in_ok-header.ensures.header behind_header) (c.in_err-answer.ensures.answer (report_with h)))

pub returns-in_err-skim_body-in-Err-clause-read : goal.returns-in_err-skim_body-in-Err-clause-read
returns-in_err-skim_body-in-Err-clause-read g c =
    let q = c.args.asked.now in
    let h = c.in_ok-header.header in
    let answer = c.in_ok-answer.answer in
    let front = then_reads whole_report behind_header (body_then (report_with h)) c.args.source.now c.read_header.new.source c.read_answer.new.source c.args.window.now c.read_header.new.window c.read_answer.new.window
    h (Ok answer) (c.in_ok-header.ensures.header behind_header) (c.in_ok-answer.ensures.answer (report_with h)) in
    body_stop q.rounds q.task.now h answer c.args.source.now c.read_answer.new.source c.skim_body.new.source c.args.window.now c.read_answer.new.window c.skim_body.new.window front
    (IsAnyBody {X = Unit {0}}) c.in_err-skim_body-in-Err.field-0.0 c.from_residual-in_err-skim_body-in-Err.result c.from_residual-in_err-skim_body-in-Err.ensures c.in_err-skim_body-in-Err.ensures.read

pub returns-in_ok-skim_body-in-Err-clause-read : goal.returns-in_ok-skim_body-in-Err-clause-read
returns-in_ok-skim_body-in-Err-clause-read g c =
    let q = c.args.asked.now in
    let h = c.in_ok-header.header in
    let answer = c.in_ok-answer.answer in
    let front = then_reads whole_report behind_header (body_then (report_with h)) c.args.source.now c.read_header.new.source c.read_answer.new.source c.args.window.now c.read_header.new.window c.read_answer.new.window
    h (Ok answer) (c.in_ok-header.ensures.header behind_header) (c.in_ok-answer.ensures.answer (report_with h)) in
    report_read q.rounds q.task.now h answer c.args.source.now c.read_answer.new.source c.skim_body.new.source c.args.window.now c.read_answer.new.window c.skim_body.new.window front
    (IsAnyBody {X = Unit {0}}) (tt {0}) (Err c.in-Err.fault) c.in_ok-skim_body-in-Err.ensures.read (λ body any. c.in-Err.ensures body)

pub returns-in_err-verdict-in-Ok-clause-read : goal.returns-in_err-verdict-in-Ok-clause-read
returns-in_err-verdict-in-Ok-clause-read g c =
    let q = c.args.asked.now in
    let h = c.in_ok-header.header in
    let answer = c.in_ok-answer.answer in
    let front = then_reads whole_report behind_header (body_then (report_with h)) c.args.source.now c.read_header.new.source c.read_answer.new.source c.args.window.now c.read_header.new.window c.read_answer.new.window
    h (Ok answer) (c.in_ok-header.ensures.header behind_header) (c.in_ok-answer.ensures.answer (report_with h)) in
    let p = problem_of q.task.now c.in-Ok.protocol.rounds in
    body_stop q.rounds q.task.now h answer c.args.source.now c.read_answer.new.source c.judge_body.new.source c.args.window.now c.read_answer.new.window c.judge_body.new.window front
    (IsBodyFault {X = Unit {0}} p answer) c.in_err-verdict-in-Ok.field-0.0 c.from_residual-in_err-verdict-in-Ok.result c.from_residual-in_err-verdict-in-Ok.ensures c.in_err-verdict-in-Ok.ensures.read

pub returns-in_ok-verdict-in-Ok-clause-read : goal.returns-in_ok-verdict-in-Ok-clause-read
returns-in_ok-verdict-in-Ok-clause-read g c =
    let q = c.args.asked.now in
    let h = c.in_ok-header.header in
    let answer = c.in_ok-answer.answer in
    let front = then_reads whole_report behind_header (body_then (report_with h)) c.args.source.now c.read_header.new.source c.read_answer.new.source c.args.window.now c.read_header.new.window c.read_answer.new.window
    h (Ok answer) (c.in_ok-header.ensures.header behind_header) (c.in_ok-answer.ensures.answer (report_with h)) in
    let b = c.in-Ok.protocol in
    let p = problem_of q.task.now b.rounds in
    let prepared = c.in-Ok.ensures in
    let verdict = c.in_ok-verdict-in-Ok.verdict in
    report_read q.rounds q.task.now h answer c.args.source.now c.read_answer.new.source c.judge_body.new.source c.args.window.now c.read_answer.new.window c.judge_body.new.window front
    (IsBodyFault {X = Unit {0}} p answer) verdict c.accepted_if.result c.in_ok-verdict-in-Ok.ensures.read
    (λ body is.
    subst (IsReported q.rounds q.task.now (with_header h body)) (sym c.accepted_if.ensures)
    (reported q.rounds q.task.now h b prepared.0 prepared.1.0 prepared.1.1 answer body verdict
    (subst (λ n. IsBodyFault {X = Unit {0}} (problem_of q.task.now n) answer body verdict) prepared.1.0.2.rounds_are is)))
