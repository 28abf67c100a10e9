use Rattle.std.proofs.Common.{◌≡◌, IfOk, subst}
use Rattle.wf_model.specs.Report.{report_text}
use Rattle.wf_report.specs.Reports.{body_of}
use Rattle.wf_run.specs.Texts.{text_of_report}
use Rattle.wf_run_solve.proofs.solve.report_text.Goals as goal

pub returns : goal.returns
unfolding text_of_report
returns c =
    subst (λ x. IfOk c.into_text.result (λ text. text.items ≡ report_text x)) (c.requires.about (body_of c.args.body)) c.into_text.ensures.text
