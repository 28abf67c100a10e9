use Rattle.std.proofs.Common.{◌++◌, codes, length, string_bytes, ap, ◌∙◌}
use Rattle.std.specs.List.{remove}
use Rattle.wf_tree_explain.specs.Words.{deciders_text, simplex_text, tuples_text, values_text, verb_text}
use Rattle.wf_tree_explain.proofs.Pieces.{adds, adds_on, plus_on}
use Rattle.wf_tree_explain.proofs.equations.put_sides.Goals as goal

pub returns : goal.returns
returns c =
    let s = c.args.simplex.now in
    let face = remove s c.args.place in
    let t1 = string_bytes c.put_deciders.new.text in
    let t2 = string_bytes c.put_verb.new.text in
    let t3 = string_bytes c.put_tuples.new.text in
    let t4 = string_bytes c.write.new.self in
    let t5 = string_bytes c.put_simplex.new.text in
    let t6 = string_bytes c.write-2.new.self in
    (plus_on (adds (string_bytes c.args.text.now) t1 (deciders_text face) c.in_ok-put_deciders.ensures)
    (plus_on (adds t1 t2 (verb_text (length face)) (c.in_ok-put_verb.ensures ∙ ap (λ n. t1 ++ verb_text n) c.face_size.ensures))
    (plus_on (adds t2 t3 (tuples_text (λ x. values_text x.others) c.args.entries.now) c.in_ok-put_tuples.ensures)
    (plus_on (adds t3 t4 (codes " as often on ") c.in_ok-write.ensures.bytes)
    (plus_on (adds t4 t5 (simplex_text s) c.in_ok-put_simplex.ensures)
    (plus_on (adds t5 t6 (codes " as on ") c.in_ok-write-2.ensures.bytes) (adds_on c.put_face.result t6 (string_bytes c.put_face.new.text) (simplex_text face) c.put_face.ensures))))))).is
