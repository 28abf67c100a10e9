use Rattle.std.proofs.Common.{drop, string_bytes, codes, arith}
use Rattle.std.specs.List.{remove}
use Rattle.wf_tree_explain.specs.Lists.{list_text}
use Rattle.wf_tree_explain.specs.Words.{vertex_text}
use Rattle.wf_tree_explain.proofs.FacesInWords.{next_vertex}
use Rattle.wf_tree_explain.proofs.ListsInWords.{enclosed, none_left, one_added, rest_of}
use Rattle.wf_tree_explain.proofs.simplex.put_face.Goals as goal

pub vertices-preserved : goal.vertices-preserved
vertices-preserved c =
    let size = c.face_size-told-end.ensures in
    let low = c.vertices-test.true in
    one_added (string_bytes c.vertices.text) _ _ _ _ _ c.in_ok-put_vertex.ensures
    (next_vertex c.args.simplex.now (remove c.args.simplex.now c.args.skipped) c.place_in_face.result c.vertices.told c.place_in_face.ensures.inside (omega (arith, size, low)) c.place_in_face.ensures.same)
    c.vertices.invariant

pub returns : goal.returns
returns c =
    let face = remove c.args.simplex.now c.args.skipped in
    let n = c.vertices.told in
    let size = c.face_size-told-end.ensures in
    let high = c.vertices-test.false in
    enclosed (string_bytes c.args.text.now) (string_bytes c.write.new.self) (string_bytes c.vertices.text) (string_bytes c.write-2.new.self) (codes "{") (list_text vertex_text (codes ", ") (codes ", ") face) (codes "}")
    (rest_of vertex_text (codes ", ") (codes ", ") n (drop n face))
    c.in_ok-write.ensures.bytes c.vertices.invariant
    (none_left vertex_text (codes ", ") (codes ", ") n face (omega (arith, size, high)))
    c.in_ok-write-2.ensures.bytes
