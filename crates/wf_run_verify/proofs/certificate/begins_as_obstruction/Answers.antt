use Rattle.std.proofs.Common.{◌∙◌, ap}
use Rattle.wf_tree_text.specs.Text.{begins_as_obstruction}
use Rattle.wf_run_verify.proofs.Peeked.{peeked, unpeeked}
use Rattle.wf_run_verify.proofs.certificate.begins_as_obstruction.Goals as goal

pub returns-in_err-seek-clause-told : goal.returns-in_err-seek-clause-told
returns-in_err-seek-clause-told g c =
    unpeeked c.args.source.now c.seek.new.source c.args.window.now c.seek.new.self c.in_err-seek.field-0.0 c.from_residual.result c.from_residual.ensures c.in_err-seek.ensures.found

pub returns-clause-told : goal.returns-clause-told
returns-clause-told g c =
    peeked c.args.source.now c.seek.new.source c.args.window.now c.seek.new.self c.in_ok-seek.field-0 c.is_obstruction_text.result c.in_ok-seek.ensures.found (c.is_obstruction_text.ensures ∙ ap begins_as_obstruction c.pending.ensures)
