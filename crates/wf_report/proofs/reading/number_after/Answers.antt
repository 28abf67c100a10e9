use Rattle.std.proofs.Common.{◌≡◌, ◌∙◌, None, cond, false, true, sym, ap}
use Rattle.wf_model.specs.Limits.{most_number}
use Rattle.wf_model.specs.Report.{number_upto, same_text}
use Rattle.wf_report.proofs.ReadLemmas.{not_false, not_true, number_nowhere, number_there}
use Rattle.wf_report.proofs.reading.number_after.Goals as goal

pub returns-in_default : goal.returns-in_default
returns-in_default c = sym (number_nowhere c.args.name.now c.args.line.now c.requires c.in_default.ensures.cases)

pub returns-then-ne : goal.returns-then-ne
returns-then-ne c =
    let differs : same_text c.in-Some.word.now c.args.name.now ≡ false = not_true _ (sym c.ne.ensures ∙ c.if-ne.true) in
    sym (number_there c.args.name.now c.args.line.now _ _ c.requires c.in-Some.ensures.cases.0 c.in-Some.ensures.cases.1 ∙ ap (λ t. cond t (number_upto most_number c.in-Some.rest.now) None) differs)

pub returns : goal.returns
returns c =
    let same : same_text c.in-Some.word.now c.args.name.now ≡ true = not_false _ (sym c.ne.ensures ∙ c.if-ne.false) in
    c.number.ensures
    ∙ sym (number_there c.args.name.now c.args.line.now _ _ c.requires c.in-Some.ensures.cases.0 c.in-Some.ensures.cases.1 ∙ ap (λ t. cond t (number_upto most_number c.in-Some.rest.now) None) same)
