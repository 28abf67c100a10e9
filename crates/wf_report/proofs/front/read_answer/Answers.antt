use Rattle.std.proofs.Common.{◌≡◌, ◌+◌, ◌∙◌, take, ap, subst, sym, Ok, Some, None, ℕ}
use Rattle.wf_report.specs.Fronts.{answer_of}
use Rattle.wf_report.specs.Parts.{body_then, report_from}
use Rattle.wf_report.specs.Reads.{Reads}
use Rattle.wf_report.specs.Windows.{Ahead, CanGive}
use Rattle.wf_report.proofs.Chains.{stopped}
use Rattle.wf_report.proofs.Fronts.{can_passed, answer_fails, answer_read, read_passing, read_refusing}
use Rattle.wf_report.proofs.front.read_answer.Goals as goal

pub returns-in_err-size-clause-answer : goal.returns-in_err-size-clause-answer
returns-in_err-size-clause-answer g c = λ next.
    let f = report_from next in
    stopped f (λ (size : ℕ). f) (body_then next) c.args.source.now c.line_ahead.new.source c.args.window.now c.line_ahead.new.window c.in_err-size.field-0.0 c.from_residual.result c.from_residual.ensures
    (c.in_err-size.ensures.line f (answer_fails next))

pub returns-in_default-clause-answer : goal.returns-in_default-clause-answer
returns-in_default-clause-answer g c = λ next.
    let f = report_from next in
    let size = c.in_ok-size.size in
    let none : answer_of (take size c.line_ahead.new.window.pending) ≡ None = ap answer_of (sym c.line.ensures) ∙ sym c.answer_of.ensures ∙ c.in_default.is in
    read_refusing f (body_then next) c.args.source.now c.line_ahead.new.source c.args.window.now c.line_ahead.new.window size
    (c.in_ok-size.ensures.line f (answer_fails next))
    size 6 c.in_ok-size.ensures.front.line (answer_read (take size c.line_ahead.new.window.pending) next None none)

pub returns-clause-answer : goal.returns-clause-answer
returns-clause-answer g c = λ next.
    let f = report_from next in
    let size = c.in_ok-size.size in
    let n = c.in-Some.answer in
    let some : answer_of (take size c.line_ahead.new.window.pending) ≡ Some n = ap answer_of (sym c.line.ensures) ∙ sym c.answer_of.ensures ∙ c.in-Some.is in
    subst (λ w. Reads f (body_then next) c.args.source.now c.line_ahead.new.source c.args.window.now w (Ok n)) (sym c.pass.ensures)
    (read_passing f (body_then next) c.args.source.now c.line_ahead.new.source c.args.window.now c.line_ahead.new.window size
    (c.in_ok-size.ensures.line f (answer_fails next))
    size n c.in_ok-size.ensures.front.line (answer_read (take size c.line_ahead.new.window.pending) next (Some n) some))

pub returns-clause-can : goal.returns-clause-can
returns-clause-can g c = subst (CanGive c.line_ahead.new.source) (sym c.pass.ensures) (can_passed c.line_ahead.new.source c.line_ahead.new.window c.in_ok-size.size c.in_ok-size.ensures.can)

pub returns-clause-number : goal.returns-clause-number
returns-clause-number g c = ap (λ (w : Ahead). w.number) c.pass.ensures ∙ ap (λ n. n + 1) c.in_ok-size.ensures.number
