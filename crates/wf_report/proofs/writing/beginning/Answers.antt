use Rattle.std.proofs.Common.{◌∷◌, [], ◌++◌, ap, ◌∙◌, codes, flat_map, string_bytes, subst, sym}
use Rattle.wf_model.specs.Report.{line, answer_line, body_values, value_line}
use Rattle.wf_report.specs.Reports.{body_of, report_seen}
use Rattle.wf_report.specs.Writing.{IsBeginning}
use Rattle.wf_report.proofs.WholeLemmas.{begins}
use Rattle.wf_report.proofs.Taken.{seven}
use Rattle.wf_report.proofs.writing.beginning.Goals as goal

pub returns : goal.returns
returns c =
    let r = c.args.report.now in
    let h = r.header in
    subst (IsBeginning (report_seen r))
    (sym (
    seven (string_bytes c.new-header.result) (string_bytes c.put_words.new.text) (string_bytes c.put_number.new.text) (string_bytes c.put_number-2.new.text) (string_bytes c.put_number-3.new.text) (string_bytes c.put_number-4.new.text)
    (string_bytes c.put_words-2.new.text) c.put_values.new.text.items
    (line (codes "wfcheck report 1") []) (line (codes "processes") (h.processes ∷ [])) (line (codes "rounds") (h.rounds ∷ [])) (line (codes "points") (h.points ∷ [])) (line (codes "executions") (h.executions ∷ []))
    (answer_line (body_of r.body)) (flat_map value_line (body_values (body_of r.body)))
    c.new-header.ensures.bytes c.in_ok-put_words.ensures c.in_ok-put_number.ensures c.in_ok-put_number-2.ensures c.in_ok-put_number-3.ensures c.in_ok-put_number-4.ensures
    (c.in_ok-put_words-2.ensures ∙ ap (λ l. string_bytes c.put_number-4.new.text ++ l) c.answer.ensures)
    (c.in_ok-put_values.ensures
    ∙ ap (λ v. v.items ++ flat_map value_line c.values.result.now) c.into_bytes-text.ensures.value
    ∙ ap (λ vs. string_bytes c.put_words-2.new.text ++ flat_map value_line vs) c.values.ensures)
    ))
    (begins (report_seen r))
