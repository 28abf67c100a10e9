use Rattle.std.proofs.Common.{◌≡◌, ◌++◌, ◌+◌, ◌∙◌, [], ◌∷◌, take, ap, subst, sym, Ok, Some, None, ℕ}
use Rattle.wf_model.specs.Report.{number_of_line}
use Rattle.wf_report.specs.Parts.{number_then}
use Rattle.wf_report.specs.Reads.{Reads}
use Rattle.wf_report.specs.Windows.{Ahead, CanGive}
use Rattle.wf_report.proofs.Chains.{stopped}
use Rattle.wf_report.proofs.Fronts.{can_passed, number_fails, number_read, read_passing, read_refusing}
use Rattle.wf_report.proofs.front.read_number.Goals as goal

pub returns-in_err-size-clause-read : goal.returns-in_err-size-clause-read
returns-in_err-size-clause-read g c = λ next.
    let f = number_then c.args.at c.args.name.now next in
    stopped f (λ (size : ℕ). f) next c.args.source.now c.line_ahead.new.source c.args.window.now c.line_ahead.new.window c.in_err-size.field-0.0 c.from_residual.result c.from_residual.ensures
    (c.in_err-size.ensures.line f (number_fails c.args.at c.args.name.now next c.requires.short))

pub returns-in_default-clause-read : goal.returns-in_default-clause-read
returns-in_default-clause-read g c = λ next.
    let f = number_then c.args.at c.args.name.now next in
    let size = c.in_ok-size.size in
    let none : number_of_line c.args.name.now (take size c.line_ahead.new.window.pending ++ 10 ∷ []) ≡ None = ap (λ l. number_of_line c.args.name.now (l ++ 10 ∷ [])) (sym c.line.ensures) ∙ sym c.number_after.ensures ∙ c.in_default.is in
    read_refusing f next c.args.source.now c.line_ahead.new.source c.args.window.now c.line_ahead.new.window size
    (c.in_ok-size.ensures.line f (number_fails c.args.at c.args.name.now next c.requires.short))
    size c.args.at c.in_ok-size.ensures.front.line (number_read c.args.at c.args.name.now (take size c.line_ahead.new.window.pending) next None none)

pub returns-clause-read : goal.returns-clause-read
returns-clause-read g c = λ next.
    let f = number_then c.args.at c.args.name.now next in
    let size = c.in_ok-size.size in
    let n = c.in-Some.number in
    let some : number_of_line c.args.name.now (take size c.line_ahead.new.window.pending ++ 10 ∷ []) ≡ Some n = ap (λ l. number_of_line c.args.name.now (l ++ 10 ∷ [])) (sym c.line.ensures) ∙ sym c.number_after.ensures ∙ c.in-Some.is in
    subst (λ w. Reads f next c.args.source.now c.line_ahead.new.source c.args.window.now w (Ok n)) (sym c.pass.ensures)
    (read_passing f next c.args.source.now c.line_ahead.new.source c.args.window.now c.line_ahead.new.window size
    (c.in_ok-size.ensures.line f (number_fails c.args.at c.args.name.now next c.requires.short))
    size n c.in_ok-size.ensures.front.line (number_read c.args.at c.args.name.now (take size c.line_ahead.new.window.pending) next (Some n) some))

pub returns-clause-can : goal.returns-clause-can
returns-clause-can g c = subst (CanGive c.line_ahead.new.source) (sym c.pass.ensures) (can_passed c.line_ahead.new.source c.line_ahead.new.window c.in_ok-size.size c.in_ok-size.ensures.can)

pub returns-clause-number : goal.returns-clause-number
returns-clause-number g c = ap (λ (w : Ahead). w.number) c.pass.ensures ∙ ap (λ n. n + 1) c.in_ok-size.ensures.number
