use Rattle.std.proofs.lemmas.Result.{err_from_is_err_and}
use Rattle.wf_report.proofs.window.Window.find.Goals as goal

pub returns-in_err-found-clause-found : goal.returns-in_err-found-clause-found
returns-in_err-found-clause-found g c =
    let p = err_from_is_err_and c.from_residual.result c.from_residual.ensures.1 in
    rw (p.1, p.2) c.in_err-found.ensures.found
