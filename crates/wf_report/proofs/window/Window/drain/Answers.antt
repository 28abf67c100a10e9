use Rattle.std.proofs.Common.{Ok, Err, length, ap, arith, sym, subst, ◌∙◌}
use Rattle.std.proofs.lemmas.Result.{err_from_is_err_and}
use Rattle.wf_report.specs.Windows.{Ahead, CanGive, Fills}
use Rattle.wf_report.proofs.Fills.{can_without, drained, drained_cut, drained_on, nearer_end, not_drained}
use Rattle.wf_report.proofs.window.Window.drain.Goals as goal

pub fills-init : goal.fills-init
fills-init g c = not_drained c.args.source.now c.args.self.now c.requires

pub returns-in_err-fill : goal.returns-in_err-fill
returns-in_err-fill g c =
    let p = err_from_is_err_and c.from_residual.result c.from_residual.ensures.1 in
    let filled = subst (λ w. Fills c.fills.source c.fill.new.source w c.fill.new.self (Err c.in_err-fill.field-0.0)) c.pass_all.ensures c.in_err-fill.ensures.filled in
    rw (p.1, p.2) (drained_cut c.args.source.now c.fills.source c.fill.new.source c.args.self.now c.fills.self c.fill.new.self c.fills.invariant c.in_err-fill.field-0.0 filled)

pub fills-preserved : goal.fills-preserved
fills-preserved g c =
    let filled = subst (λ w. Fills c.fills.source c.fill.new.source w c.fill.new.self (Ok tt)) c.pass_all.ensures c.in_ok-fill.ensures.filled in
    drained_on c.args.source.now c.fills.source c.fill.new.source c.args.self.now c.fills.self c.fill.new.self c.fills.invariant filled c.in_ok-fill.ensures.can

pub fills-smaller : goal.fills-smaller
fills-smaller g c =
    let filled = subst (λ w. Fills c.fills.source c.fill.new.source w c.fill.new.self (Ok tt)) c.pass_all.ensures c.in_ok-fill.ensures.filled in
    nearer_end c.args.source.now c.fills.source c.fill.new.source c.args.self.now c.fills.self c.fill.new.self c.fills.invariant (sym c.is_ended.ensures ∙ c.fills-test.true) filled c.in_ok-fill.ensures.can

pub returns : goal.returns
returns g c = drained c.args.source.now c.fills.source c.fills.source c.args.self.now c.fills.self c.fills.self c.fills.invariant (sym c.is_ended.ensures ∙ c.fills-test.false)

pub fill-requires : goal.fill-requires
fill-requires g c = record {
  few =
      let empty = ap (λ (w : Ahead). length w.pending) c.pass_all.ensures in
      omega (arith, empty);
  can = subst (CanGive c.fills.source) (sym c.pass_all.ensures) (can_without c.fills.source c.fills.self c.fills.invariant.can);
  going = ap (λ (w : Ahead). w.ended) c.pass_all.ensures ∙ sym c.is_ended.ensures ∙ c.fills-test.true;
}
