use Rattle.std.proofs.Common.{◌++◌, string_bytes, ap, ◌∙◌}
use Rattle.wf_base.proofs.OfStreams.Lemmas.{failed}
use Rattle.wf_report_explain.specs.Words.Text.{rest_text}
use Rattle.wf_report_explain.proofs.OfArgument.TextParts.{step_line}
use Rattle.wf_report_explain.proofs.argument.steps.put_step.Goals as goal

pub returns-in_err-put_margin : goal.returns-in_err-put_margin
returns-in_err-put_margin c = failed c.from_residual.result _ c.from_residual.ensures.0

pub returns-in_err-put_claim : goal.returns-in_err-put_claim
returns-in_err-put_claim c = failed c.from_residual-in_err-put_claim.result _ c.from_residual-in_err-put_claim.ensures.0

pub returns-in_err-put : goal.returns-in_err-put
returns-in_err-put c = failed c.from_residual-in_err-put.result _ c.from_residual-in_err-put.ensures.0

pub returns-in_err-write : goal.returns-in_err-write
returns-in_err-write c = failed c.from_residual-in_err-write.result _ c.from_residual-in_err-write.ensures.0

pub returns-in_err-put_grounds : goal.returns-in_err-put_grounds
returns-in_err-put_grounds c = failed c.from_residual-in_err-put_grounds.result _ c.from_residual-in_err-put_grounds.ensures.0

pub returns-in_err-put_remaining : goal.returns-in_err-put_remaining
returns-in_err-put_remaining c = failed c.from_residual-in_err-put_remaining.result _ c.from_residual-in_err-put_remaining.ensures.0

pub returns-in_err-writeln : goal.returns-in_err-writeln
returns-in_err-writeln c = failed c.from_residual-in_err-writeln.result _ c.from_residual-in_err-writeln.ensures.0

pub returns : goal.returns
returns c =
    step_line (string_bytes c.args.text.now) (string_bytes c.put_margin.new.text) (string_bytes c.put_claim.new.text) (string_bytes c.put.new.text) (string_bytes c.write.new.self) (string_bytes c.put_grounds.new.text) (string_bytes c.put_remaining.new.text) (string_bytes c.writeln.new.self)
    _ _ _ _ _ _ _ c.in_ok-put_margin.ensures c.in_ok-put_claim.ensures c.in_ok-put.ensures c.in_ok-write.ensures.bytes c.in_ok-put_grounds.ensures
    (c.in_ok-put_remaining.ensures ∙ ap (λ left. string_bytes c.put_grounds.new.text ++ rest_text c.args.step.now.point left) c.left_there.ensures) c.in_ok-writeln.ensures.bytes
