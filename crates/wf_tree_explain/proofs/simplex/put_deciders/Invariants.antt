use Rattle.std.proofs.Common.{◌≡◌, ◌++◌, false, codes, drop, string_bytes}
use Rattle.std.specs.List.{remove}
use Rattle.wf_model.specs.PointsText.{process_text}
use Rattle.wf_tree_explain.specs.Words.{deciders_text}
use Rattle.wf_tree_explain.proofs.ListsInWords.{rest_of}
use Rattle.wf_tree_explain.proofs.simplex.put_deciders.Given as goal

abbrev pub invariant-vertices : goal.invariant-vertices
invariant-vertices l =
    let face = remove l.simplex l.skipped in
    string_bytes l.text ++ rest_of (λ v. process_text false v.0) (codes ", ") (codes " and ") l.told (drop l.told face) ≡ string_bytes l.initial.text ++ deciders_text face
