use Rattle.std.proofs.Common.{◌∷◌, ◌++◌, get_or, length, string_bytes, None, ap, ◌∙◌}
use Rattle.std.proofs.lemmas.List.{get_or_default, take_rest}
use Rattle.wf_report_explain.specs.Words.Text.{values_text}
use Rattle.wf_report_explain.specs.Argument.Text.{values_beside}
use Rattle.wf_report_explain.specs.declared.argument.reasons.Reason.{Reason}
use Rattle.wf_report_explain.proofs.OfArgument.ReasonsInWords.{alike_told, alike_within}
use Rattle.wf_report_explain.proofs.argument.words.put_same_origin.Goals as goal

abbrev none : Reason
none = record { point = 0; loss = record { value = 0; step = None } }

pub returns-clause-text : goal.returns-clause-text
returns-clause-text c =
    let reasons = c.args.reasons.now in let x = get_or reasons 0 none in
    alike_told c.args.before.now reasons x c.set_beside.new.values.items (length c.as_slice-values.result.now) (string_bytes c.args.text.now) (string_bytes c.put_lead.new.text) (string_bytes c.put_values.new.text) (string_bytes c.put_origin.new.text)
    c.requires (get_or_default reasons 0 x none c.requires) (c.in_ok-set_beside.ensures ∙ ap (λ ys. x.loss.value ∷ values_beside x ys) (take_rest reasons 1)) (ap length c.as_slice-values.ensures.value)
    c.in_ok-put_lead.ensures (c.in_ok-put_values.ensures ∙ ap (λ values. string_bytes c.put_lead.new.text ++ values_text values) c.as_slice-values.ensures.value) c.in_ok-put_origin.ensures

pub returns-clause-within : goal.returns-clause-within
returns-clause-within c =
    let reasons = c.args.reasons.now in let x = get_or reasons 0 none in
    alike_within reasons x c.set_beside.new.values.items (length c.as_slice-values.result.now) c.requires (c.in_ok-set_beside.ensures ∙ ap (λ ys. x.loss.value ∷ values_beside x ys) (take_rest reasons 1)) (ap length c.as_slice-values.ensures.value)
