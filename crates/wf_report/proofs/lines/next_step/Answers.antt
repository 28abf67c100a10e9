use Rattle.std.proofs.Common.{◌≡◌, ◌++◌, ◌∙◌, [], ◌∷◌, true, false, take, codes, option_map, ap, arith, subst, sym, Ok, Some, None, ℕ}
use Rattle.wf_model.specs.Report.{same_text}
use Rattle.wf_report.specs.Steps.{step_in}
use Rattle.wf_base.specs.Lines.Lines.{line_of}
use Rattle.wf_report.specs.Fronts.{FailsAt}
use Rattle.wf_report.specs.Parts.{end_then, step_then, steps_then}
use Rattle.wf_report.specs.Reads.{Reads}
use Rattle.wf_report.proofs.Chains.{stopped, then_reads, then_stops}
use Rattle.wf_report.proofs.Fronts.{end_read, step_refused, step_taken, steps_fail}
use Rattle.wf_report.proofs.lines.next_step.Goals as goal

pub line-requires : goal.line-requires
line-requires g c =
    let inside = c.in_ok-size.ensures.front.line.inside in
    omega (arith, inside)

pub returns-in_err-size-clause-step : goal.returns-in_err-size-clause-step
returns-in_err-size-clause-step g c = λ next.
    let f = steps_then c.args.part c.args.window.now.number next in
    stopped f (λ (size : ℕ). f) (step_then c.args.part c.line_ahead.new.window.number next) c.args.source.now c.line_ahead.new.source c.args.window.now c.line_ahead.new.window c.in_err-size.field-0.0 c.from_residual.result c.from_residual.ensures
    (c.in_err-size.ensures.line f (subst (λ k. FailsAt k f) (sym c.number-at.ensures) (steps_fail c.args.part c.args.window.now.number next)))

pub returns-in_default-clause-step : goal.returns-in_default-clause-step
returns-in_default-clause-step g c = λ next.
    let size = c.in_ok-size.size in
    let w = c.line_ahead.new.window in
    let end : same_text (take size w.pending) (codes "end") ≡ false = ap (λ l. same_text l (codes "end")) (sym c.line.ensures) ∙ sym (ap (same_text c.line.result.now) c.as_slice.ensures) ∙ sym c.eq.ensures ∙ c.if-eq.false in
    let none : step_in c.args.part (take size w.pending ++ 10 ∷ []) ≡ None = ap (λ l. step_in c.args.part (l ++ 10 ∷ [])) (sym c.line-2.ensures) ∙ sym c.step_in.ensures ∙ ap (option_map line_of) c.in_default.is in
    step_refused c.args.part c.args.source.now c.line_ahead.new.source c.args.window.now w c.number-at.result size c.number-at.ensures c.in_ok-size.ensures.front.line c.in_ok-size.ensures.line next (step_then c.args.part w.number next) end none

pub returns-clause-step : goal.returns-clause-step
returns-clause-step g c = λ next.
    let size = c.in_ok-size.size in
    let w = c.line_ahead.new.window in
    let l = c.in-Some.step in
    let end : same_text (take size w.pending) (codes "end") ≡ false = ap (λ l. same_text l (codes "end")) (sym c.line.ensures) ∙ sym (ap (same_text c.line.result.now) c.as_slice.ensures) ∙ sym c.eq.ensures ∙ c.if-eq.false in
    let some : step_in c.args.part (take size w.pending ++ 10 ∷ []) ≡ Some (line_of l) = ap (λ l. step_in c.args.part (l ++ 10 ∷ [])) (sym c.line-2.ensures) ∙ sym c.step_in.ensures ∙ ap (option_map line_of) c.in-Some.is in
    subst (λ v. Reads (steps_then c.args.part c.args.window.now.number next) (step_then c.args.part v.number next) c.args.source.now c.line_ahead.new.source c.args.window.now v (Ok (Some l))) (sym c.pass-2.ensures)
    (step_taken c.args.part c.args.source.now c.line_ahead.new.source c.args.window.now w c.number-at.result size c.number-at.ensures c.in_ok-size.ensures.front.line c.in_ok-size.ensures.line next l c.in_ok-size.ensures.number end some)

pub returns-in_err-expect_end-clause-step : goal.returns-in_err-expect_end-clause-step
returns-in_err-expect_end-clause-step g c = λ next.
    let size = c.in_ok-size.size in
    let w = c.line_ahead.new.window in
    let at = c.number-at.result in
    let f = steps_then c.args.part c.args.window.now.number next in
    let end : same_text (take size w.pending) (codes "end") ≡ true = ap (λ l. same_text l (codes "end")) (sym c.line.ensures) ∙ sym (ap (same_text c.line.result.now) c.as_slice.ensures) ∙ sym c.eq.ensures ∙ c.if-eq.true in
    let first = subst (λ v. Reads f (λ (x : Unit {0}). end_then at next) c.args.source.now c.line_ahead.new.source c.args.window.now v (Ok tt)) (sym c.pass.ensures)
    (end_read c.args.part c.args.source.now c.line_ahead.new.source c.args.window.now w at size c.number-at.ensures c.in_ok-size.ensures.front.line c.in_ok-size.ensures.line next end) in
    then_stops f (λ (x : Unit {0}). end_then at next) (λ (done : Unit {0}) ls. next []) (step_then c.args.part c.expect_end.new.window.number next) c.args.source.now c.line_ahead.new.source c.expect_end.new.source c.args.window.now c.pass.new.self c.expect_end.new.window
    (tt {0}) c.in_err-expect_end.field-0.0 c.from_residual-in_err-expect_end.result c.from_residual-in_err-expect_end.ensures first (c.in_err-expect_end.ensures.end next)

pub returns-then-eq-clause-step : goal.returns-then-eq-clause-step
returns-then-eq-clause-step g c = λ next.
    let size = c.in_ok-size.size in
    let w = c.line_ahead.new.window in
    let at = c.number-at.result in
    let f = steps_then c.args.part c.args.window.now.number next in
    let end : same_text (take size w.pending) (codes "end") ≡ true = ap (λ l. same_text l (codes "end")) (sym c.line.ensures) ∙ sym (ap (same_text c.line.result.now) c.as_slice.ensures) ∙ sym c.eq.ensures ∙ c.if-eq.true in
    let first = subst (λ v. Reads f (λ (x : Unit {0}). end_then at next) c.args.source.now c.line_ahead.new.source c.args.window.now v (Ok tt)) (sym c.pass.ensures)
    (end_read c.args.part c.args.source.now c.line_ahead.new.source c.args.window.now w at size c.number-at.ensures c.in_ok-size.ensures.front.line c.in_ok-size.ensures.line next end) in
    then_reads f (λ (x : Unit {0}). end_then at next) (step_then c.args.part c.expect_end.new.window.number next) c.args.source.now c.line_ahead.new.source c.expect_end.new.source c.args.window.now c.pass.new.self c.expect_end.new.window
    (tt {0}) (Ok None) first (c.in_ok-expect_end.ensures.end next)
