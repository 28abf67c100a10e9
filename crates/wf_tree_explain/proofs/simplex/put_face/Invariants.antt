use Rattle.std.proofs.Common.{◌≡◌, ◌++◌, codes, drop, string_bytes}
use Rattle.std.specs.List.{remove}
use Rattle.wf_tree_explain.specs.Lists.{list_text}
use Rattle.wf_tree_explain.specs.Words.{vertex_text}
use Rattle.wf_tree_explain.proofs.ListsInWords.{rest_of}
use Rattle.wf_tree_explain.proofs.simplex.put_face.Given as goal

abbrev pub invariant-vertices : goal.invariant-vertices
invariant-vertices l =
    let face = remove l.simplex l.skipped in
    string_bytes l.text ++ rest_of vertex_text (codes ", ") (codes ", ") l.told (drop l.told face) ≡ string_bytes l.initial.text ++ list_text vertex_text (codes ", ") (codes ", ") face
