use Rattle.std.proofs.Common.{◌∙◌, sym, ap}
use Rattle.wf_model.specs.Report.{same_text}
use Rattle.wf_report.proofs.BodyLemmas.{bad_answer, no_answer}
use Rattle.wf_report.proofs.reading.read_body.Goals as goal

pub returns-in_default-clause-body : goal.returns-in_default-clause-body
returns-in_default-clause-body c = no_answer c.args.text.now c.in_default.ensures.cases

pub returns-clause-body : goal.returns-clause-body
returns-clause-body c =
    bad_answer c.in-Some.found.now c.in-Some.rest.now c.args.text.now c.in-Some.ensures.cases.0 c.in-Some.ensures.cases.1
    (sym (ap (same_text c.in-Some.found.now) c.as_slice.ensures) ∙ sym c.eq.ensures ∙ c.if-eq.false)
    (sym (ap (same_text c.in-Some.found.now) c.as_slice-2.ensures) ∙ sym c.eq-2.ensures ∙ c.if-eq-2.false)
    (sym (ap (same_text c.in-Some.found.now) c.as_slice-3.ensures) ∙ sym c.eq-3.ensures ∙ c.if-eq-3.false)
