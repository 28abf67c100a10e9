use Rattle.std.proofs.Common.{◌++◌, false, string_bytes, codes, ap, ◌∙◌, arith, ℕ}
use Rattle.std.specs.List.{remove}
use Rattle.wf_model.specs.PointsText.{process_text}
use Rattle.wf_tree_explain.specs.Places.{separator}
use Rattle.wf_tree_explain.proofs.FacesInWords.{next_decider}
use Rattle.wf_tree_explain.proofs.ListsInWords.{all_added, none_left, one_added}
use Rattle.wf_tree_explain.proofs.simplex.put_deciders.Goals as goal

pub vertices-preserved : goal.vertices-preserved
vertices-preserved c =
    let face = remove c.args.simplex.now c.args.skipped in
    let size = c.face_size-size.ensures in
    let low = c.vertices-test.true in
    let p = c.colour-process.result in
    let n = c.vertices.told in
    one_added (string_bytes c.vertices.text) _ _ _ _ _
    (c.in_ok-write.ensures.bytes ∙ ap (λ b. string_bytes c.vertices.text ++ (b ++ process_text false p)) (c.separator-before.ensures ∙ ap (separator (codes ", ") (codes " and ") n) size))
    (next_decider c.args.simplex.now face c.place_in_face.result n p c.place_in_face.ensures.inside (omega (arith, size, low)) c.place_in_face.ensures.same c.colour-process.ensures)
    c.vertices.invariant

pub returns : goal.returns
returns c =
    let face = remove c.args.simplex.now c.args.skipped in
    let n = c.vertices.told in
    let size = c.face_size-size.ensures in
    let high = c.vertices-test.false in
    all_added (string_bytes c.vertices.text) _ _ (none_left (λ (v : ℕ × ℕ). process_text false v.0) (codes ", ") (codes " and ") n face (omega (arith, size, high))) c.vertices.invariant
