use Rattle.std.proofs.Common.{◌++◌, string_bytes, codes, sym, ap, ◌∙◌, arith}
use Rattle.std.specs.Prelude.{if◌then◌else◌}
use Rattle.std.specs.List.{remove}
use Rattle.wf_tree_explain.specs.Words.{sides_text, simplex_text}
use Rattle.wf_tree_explain.proofs.FacesInWords.{none_there}
use Rattle.wf_tree_explain.proofs.Pieces.{adds, plus}
use Rattle.wf_tree_explain.proofs.equations.put_equation.Goals as goal

pub returns : goal.returns
returns c =
    let s = c.args.simplex.now in
    let face = remove s c.args.place in
    let size = c.face_size.ensures in
    let none = c.if-face_size-gt0.false in
    let t1 = string_bytes c.put_simplex.new.text in
    (plus (adds (string_bytes c.args.text.now) t1 (simplex_text s) c.in_ok-put_simplex.ensures) (adds t1 (string_bytes c.write.new.self) (codes " has one execution") c.in_ok-write.ensures.bytes)).is
    ∙ ap (λ b. string_bytes c.args.text.now ++ (if b then sides_text s face c.args.entries.now else simplex_text s ++ codes " has one execution")) (sym (none_there face (omega (arith, size, none))))
