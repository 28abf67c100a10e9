use Rattle.std.proofs.Common.{◌∙◌, ◌++◌, Err, ap, arith, length, sym, subst}
use Rattle.std.proofs.lemmas.Result.{err_from_is_err_and}
use Rattle.wf_report.specs.Windows.{Collects}
use Rattle.wf_report.proofs.Fills.{begun, collected, collected_cut, collected_full, collected_on, nearer_rest, not_begun}
use Rattle.wf_report.proofs.window.Window.read_rest.Goals as goal

pub fills-init : goal.fills-init
fills-init g c = begun c.args.source.now c.args.self.now c.move_onto.new.self c.move_onto.new.text.items c.requires c.move_onto.ensures.passed (c.in_ok-move_onto.ensures.moved ∙ (λ i. c.new-text.ensures.items i ++ c.args.self.now.pending))

pub returns-in_err-move_onto-2 : goal.returns-in_err-move_onto-2
returns-in_err-move_onto-2 g c =
    let p = err_from_is_err_and c.from_residual-in_err-move_onto-2.result c.from_residual-in_err-move_onto-2.ensures.1 in
    rw (p.1, p.2) (subst (λ e. Collects c.args.source.now c.fill.new.source c.args.self.now c.move_onto-in-fills.new.self (Err e)) (sym c.in_err-move_onto-2.ensures.refused)
    (collected_full c.args.source.now c.fills.source c.fill.new.source c.args.self.now c.fills.self c.fill.new.self c.fills.text.items c.fills.invariant c.move_onto-in-fills.new.self c.in_ok-fill.ensures.filled c.in_ok-fill.ensures.can c.move_onto-in-fills.ensures.passed))

pub returns-in_err-move_onto : goal.returns-in_err-move_onto
returns-in_err-move_onto g c =
    let p = err_from_is_err_and c.from_residual.result c.from_residual.ensures.1 in
    rw (p.1, p.2) (subst (λ e. Collects c.args.source.now c.args.source.now c.args.self.now c.move_onto.new.self (Err e)) (sym c.in_err-move_onto.ensures.refused)
    (not_begun c.args.source.now c.args.self.now c.move_onto.new.self c.requires c.move_onto.ensures.passed))

pub returns-in_err-fill : goal.returns-in_err-fill
returns-in_err-fill g c =
    let p = err_from_is_err_and c.from_residual-in_err-fill.result c.from_residual-in_err-fill.ensures.1 in
    rw (p.1, p.2) (collected_cut c.args.source.now c.fills.source c.fill.new.source c.args.self.now c.fills.self c.fill.new.self c.fills.text.items c.fills.invariant c.in_err-fill.field-0.0 c.in_err-fill.ensures.filled)

pub fills-preserved : goal.fills-preserved
fills-preserved g c = collected_on c.args.source.now c.fills.source c.fill.new.source c.args.self.now c.fills.self c.fill.new.self c.fills.text.items c.fills.invariant c.move_onto-in-fills.new.self c.move_onto-in-fills.new.text.items c.in_ok-fill.ensures.filled c.in_ok-fill.ensures.can c.move_onto-in-fills.ensures.passed c.in_ok-move_onto-2.ensures.moved

pub fills-smaller : goal.fills-smaller
fills-smaller g c = nearer_rest c.args.source.now c.fills.source c.fill.new.source c.args.self.now c.fills.self c.fill.new.self c.fills.text.items c.fills.invariant (sym c.is_ended.ensures ∙ c.fills-test.true) c.move_onto-in-fills.new.self c.in_ok-fill.ensures.filled c.in_ok-fill.ensures.can c.move_onto-in-fills.ensures.passed

pub returns : goal.returns
returns g c = collected c.args.source.now c.fills.source c.fills.source c.args.self.now c.fills.self c.fills.self c.fills.text.items c.fills.invariant (sym c.is_ended.ensures ∙ c.fills-test.false)

pub fill-requires : goal.fill-requires
fill-requires g c = record {
  few =
      let empty = ap length c.fills.invariant.none in
      omega (arith, empty);
  can = c.fills.invariant.can;
  going = sym c.is_ended.ensures ∙ c.fills-test.true;
}
