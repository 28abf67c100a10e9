use Rattle.std.proofs.lemmas.Result.{err_from_is_err_and}
use Rattle.wf_report.proofs.Fills.{fewer_calls, grown_cut, grown_found, grown_on, not_grown}
use Rattle.wf_report.proofs.window.Window.seek.Goals as goal

pub fills-init : goal.fills-init
fills-init g c = not_grown c.args.source.now c.args.self.now c.requires

pub returns-in-Some-clause-found : goal.returns-in-Some-clause-found
returns-in-Some-clause-found g c = grown_found c.args.source.now c.fills.source c.fills.source c.args.self.now c.fills.self c.fills.self c.fills.invariant c.in-Some.found c.in-Some.ensures

pub returns-in_err-fill-in-None-clause-found : goal.returns-in_err-fill-in-None-clause-found
returns-in_err-fill-in-None-clause-found g c =
    let p = err_from_is_err_and c.from_residual.result c.from_residual.ensures.1 in
    rw (p.1, p.2) (grown_cut c.args.source.now c.fills.source c.fill.new.source c.args.self.now c.fills.self c.fill.new.self c.fills.invariant c.in_err-fill-in-None.field-0.0 c.in-None.ensures c.in_err-fill-in-None.ensures.filled)

pub fills-preserved : goal.fills-preserved
fills-preserved g c = grown_on c.args.source.now c.fills.source c.fill.new.source c.args.self.now c.fills.self c.fill.new.self c.fills.invariant c.in_ok-fill-in-None.ensures.filled c.in_ok-fill-in-None.ensures.can

pub fills-smaller : goal.fills-smaller
fills-smaller g c = fewer_calls c.args.source.now c.fills.source c.fill.new.source c.args.self.now c.fills.self c.fill.new.self c.fills.invariant c.in-None.ensures c.in_ok-fill-in-None.ensures.filled
