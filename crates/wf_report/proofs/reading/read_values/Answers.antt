use Rattle.std.proofs.Common.{◌≡◌, suc, ◌+◌, ◌∙◌, ◌∷◌, [], length, length-append, sym, ap, arith}
use Rattle.wf_model.specs.Report.{lines_of}
use Rattle.wf_report.proofs.BodyLemmas.{front, fronted, no_value_cut, no_value_next, none_fronted, value_next}
use Rattle.wf_report.proofs.reading.read_values.Goals as goal

pub lines-init : goal.lines-init
lines-init c = (ap (λ xs. fronted xs (front (lines_of c.args.text.now))) c.new-values.ensures.items ∙ none_fronted (front (lines_of c.args.text.now)), omega (arith, ap length c.new-values.ensures.items))

pub returns-in_default-value_of-clause-front : goal.returns-in_default-value_of-clause-front
returns-in_default-value_of-clause-front c =
    sym c.lines.invariant.0
    ∙ no_value_next c.lines.values.items c.in-Some.found.now c.in-Some.others.now c.lines.rest.now c.in-Some.ensures.cases.0 c.in-Some.ensures.cases.1 (sym c.value_of.ensures ∙ c.in_default-value_of.is)

pub lines-preserved : goal.lines-preserved
lines-preserved c =
    let shorter : length c.lines.rest.now ≡ length c.in-Some.found.now + suc (length c.in-Some.others.now) = ap length c.in-Some.ensures.cases.0 ∙ length-append c.in-Some.found.now (10 ∷ c.in-Some.others.now) in (
      ap (λ xs. fronted xs (front (lines_of c.in-Some.others.now))) c.in_ok-put.ensures
          ∙ sym (value_next c.lines.values.items c.in-Some.found.now c.in-Some.others.now c.lines.rest.now c.in-Some.ensures.cases.0 c.in-Some.ensures.cases.1 c.in-Some-value_of.value (sym c.value_of.ensures ∙ c.in-Some-value_of.is))
          ∙ c.lines.invariant.0,
      omega (arith, shorter, ap length c.in_ok-put.ensures, length-append c.lines.values.items (c.in-Some-value_of.value ∷ []), c.lines.invariant.1),
    )

pub returns-clause-front : goal.returns-clause-front
returns-clause-front c = sym c.lines.invariant.0 ∙ no_value_cut c.lines.values.items c.lines.rest.now c.in_default.ensures.cases
