use Rattle.std.proofs.Common.{◌∙◌, ap, map, sym}
use Rattle.std.proofs.lemmas.Result.{IfOk-weaker}
use Rattle.wf_base.specs.Lines.Lines.{line_of}
use Rattle.wf_report.specs.Reports.{body_of}
use Rattle.wf_report_explain.specs.Argument.Text.{argument_text}
use Rattle.wf_run_report.specs.Explaining.{body_explained}
use Rattle.wf_run_report.proofs.explain.explain_body.Goals as goal

pub returns-in-Nothing : goal.returns-in-Nothing
returns-in-Nothing c =
    let t = c.args.task.now in
    let r = c.args.protocol.now.rounds in
    IfOk-weaker c.write_argument.result _ _
    (λ text is. is ∙ ap (λ ls. argument_text t r (map line_of ls)) c.deref.ensures.value ∙ sym (ap (λ b. body_explained t r (body_of b)) c.in-Nothing.is))
    c.write_argument.ensures
