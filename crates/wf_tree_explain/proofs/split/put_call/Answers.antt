use Rattle.std.proofs.Common.{◌≡◌, ◌++◌, string_bytes, OnOk, subst, ap, ◌∙◌}
use Rattle.std.specs.Prelude.{slice_index}
use Rattle.wf_model.specs.Simplex.{processes_of}
use Rattle.wf_tree_model.specs.Splits.{value_of_part}
use Rattle.wf_tree_explain.specs.Calls.{splitting_of}
use Rattle.wf_tree_explain.specs.Words.{called, named_text, tuples_text, values_text}
use Rattle.wf_tree_explain.proofs.Pieces.{adds, adds_on, plus_on}
use Rattle.wf_tree_explain.proofs.split.put_call.Goals as goal

pub returns : goal.returns
returns c =
    let r = c.args.renamed.now in
    let place = c.args.call.now.place in
    let name = c.args.call.now.name in
    let rows = called (splitting_of r) place name in
    let process = slice_index (processes_of r.simplex.now) place in
    let t = string_bytes c.args.text.now in
    let t1 = string_bytes c.write.new.self in
    let t2 = string_bytes c.put_rows.new.text in
    (plus_on
    (adds t t1 (named_text (value_of_part place rows) process name)
    (c.in_ok-write.ensures.bytes ∙ ap (λ v. t ++ named_text v c.colour-process.result name) (c.first_value-value.ensures ∙ ap (value_of_part place) (c.deref.ensures.value ∙ c.in_ok-rows.ensures.called))
    ∙ ap (λ p. t ++ named_text (value_of_part place rows) p name) c.colour-process.ensures))
    (adds_on c.put_rows.result t1 t2 (tuples_text values_text rows)
    (subst (λ xs. OnOk c.put_rows.result (t2 ≡ t1 ++ tuples_text values_text xs)) (c.deref-2.ensures.value ∙ c.in_ok-rows.ensures.called) c.put_rows.ensures))).is
