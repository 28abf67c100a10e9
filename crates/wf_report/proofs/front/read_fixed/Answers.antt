use Rattle.std.proofs.Common.{◌≡◌, ◌+◌, ◌∙◌, false, true, take, arith, ap, subst, sym, Ok, ℕ}
use Rattle.wf_model.specs.Report.{same_text}
use Rattle.wf_report.proofs.ReadLemmas.{not_false, not_true}
use Rattle.wf_report.specs.Parts.{fixed_then}
use Rattle.wf_report.specs.Reads.{Reads}
use Rattle.wf_report.specs.Windows.{Ahead, CanGive}
use Rattle.wf_report.proofs.Chains.{stopped}
use Rattle.wf_report.proofs.Fronts.{can_passed, fixed_fails, fixed_step, read_passing, read_refusing}
use Rattle.wf_report.proofs.front.read_fixed.Goals as goal

pub line-requires : goal.line-requires
line-requires g c =
    let inside = c.in_ok-size.ensures.front.line.inside in
    omega (arith, inside)

pub pass-requires : goal.pass-requires
pass-requires g c = c.in_ok-size.ensures.front

pub returns-in_err-size-clause-fixed : goal.returns-in_err-size-clause-fixed
returns-in_err-size-clause-fixed g c = λ next.
    let f = fixed_then c.args.at c.args.wanted.now next in
    stopped f (λ (size : ℕ). f) (λ (done : Unit {0}). next) c.args.source.now c.line_ahead.new.source c.args.window.now c.line_ahead.new.window c.in_err-size.field-0.0 c.from_residual.result c.from_residual.ensures
    (c.in_err-size.ensures.line f (fixed_fails c.args.at c.args.wanted.now next c.requires.short))

pub returns-then-ne-clause-fixed : goal.returns-then-ne-clause-fixed
returns-then-ne-clause-fixed g c = λ next.
    let f = fixed_then c.args.at c.args.wanted.now next in
    let size = c.in_ok-size.size in
    let differs : same_text (take size c.line_ahead.new.window.pending) c.args.wanted.now ≡ false = ap (λ l. same_text l c.args.wanted.now) (sym c.line.ensures) ∙ not_true _ (sym c.ne.ensures ∙ c.if-ne.true) in
    read_refusing f (λ (done : Unit {0}). next) c.args.source.now c.line_ahead.new.source c.args.window.now c.line_ahead.new.window size
    (c.in_ok-size.ensures.line f (fixed_fails c.args.at c.args.wanted.now next c.requires.short))
    size c.args.at c.in_ok-size.ensures.front.line (fixed_step c.args.at c.args.wanted.now (take size c.line_ahead.new.window.pending) next false differs)

pub returns-clause-fixed : goal.returns-clause-fixed
returns-clause-fixed g c = λ next.
    let f = fixed_then c.args.at c.args.wanted.now next in
    let size = c.in_ok-size.size in
    let same : same_text (take size c.line_ahead.new.window.pending) c.args.wanted.now ≡ true = ap (λ l. same_text l c.args.wanted.now) (sym c.line.ensures) ∙ not_false _ (sym c.ne.ensures ∙ c.if-ne.false) in
    subst (λ w. Reads f (λ (done : Unit {0}). next) c.args.source.now c.line_ahead.new.source c.args.window.now w (Ok tt)) (sym c.pass.ensures)
    (read_passing f (λ (done : Unit {0}). next) c.args.source.now c.line_ahead.new.source c.args.window.now c.line_ahead.new.window size
    (c.in_ok-size.ensures.line f (fixed_fails c.args.at c.args.wanted.now next c.requires.short))
    size (tt {0}) c.in_ok-size.ensures.front.line (fixed_step c.args.at c.args.wanted.now (take size c.line_ahead.new.window.pending) next true same))

pub returns-clause-can : goal.returns-clause-can
returns-clause-can g c = subst (CanGive c.line_ahead.new.source) (sym c.pass.ensures) (can_passed c.line_ahead.new.source c.line_ahead.new.window c.in_ok-size.size c.in_ok-size.ensures.can)

pub returns-clause-number : goal.returns-clause-number
returns-clause-number g c = ap (λ (w : Ahead). w.number) c.pass.ensures ∙ ap (λ n. n + 1) c.in_ok-size.ensures.number
