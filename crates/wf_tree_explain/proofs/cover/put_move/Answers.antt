use Rattle.std.proofs.Common.{◌≡◌, ◌++◌, codes, length, string_bytes, OnOk, subst, ap, ◌∙◌}
use Rattle.wf_model.specs.Lists.{below}
use Rattle.wf_tree_explain.specs.Words.{at_text, sheets_text, value_text}
use Rattle.wf_tree_explain.proofs.Pieces.{adds, adds_on, plus_on}
use Rattle.wf_tree_explain.proofs.cover.put_move.Goals as goal

pub returns : goal.returns
returns c =
    let s = c.args.simplex.now in
    let m = c.args.step.now in
    let t1 = string_bytes c.write.new.self in
    let t2 = string_bytes c.put_process.new.text in
    let t3 = string_bytes c.write-2.new.self in
    let t4 = string_bytes c.put_process-2.new.text in
    let t5 = string_bytes c.write-3.new.self in
    let t6 = string_bytes c.put_below.new.text in
    let t7 = string_bytes c.write-4.new.self in
    let t8 = string_bytes c.put_values.new.text in
    (plus_on (adds (string_bytes c.args.text.now) t1 (value_text (codes "from ") m.value) c.in_ok-write.ensures.bytes)
    (plus_on (adds t1 t2 (at_text s m.first) c.in_ok-put_process.ensures)
    (plus_on (adds t2 t3 (value_text (codes " to ") m.other) c.in_ok-write-2.ensures.bytes)
    (plus_on (adds t3 t4 (at_text s m.second) c.in_ok-put_process-2.ensures)
    (plus_on (adds t4 t5 (codes " the sheets ") c.in_ok-write-3.ensures.bytes)
    (plus_on (adds t5 t6 (sheets_text (below (length m.sheets.items))) (c.in_ok-put_below.ensures ∙ ap (λ xs. t5 ++ sheets_text (below (length xs))) c.as_slice-sheets.ensures.value))
    (plus_on (adds t6 t7 (codes " go to ") c.in_ok-write-4.ensures.bytes)
    (adds_on c.put_values.result t7 t8 (sheets_text m.sheets.items) (subst (λ xs. OnOk c.put_values.result (t8 ≡ t7 ++ sheets_text xs)) c.as_slice-sheets.ensures.value c.put_values.ensures))))))))).is
