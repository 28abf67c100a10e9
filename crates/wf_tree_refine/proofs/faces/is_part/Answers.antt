use Rattle.std.proofs.Common.{◌∙◌, arith}
use Rattle.wf_tree_refine.proofs.PartFaces.{part_face}
use Rattle.wf_tree_refine.proofs.faces.is_part.Goals as goal

pub returns : goal.returns
returns c =
    let some = c.colours.ensures.some in
    let count = c.colours.ensures.count in
    c.is_face.ensures ∙ part_face c.args.face.now c.args.simplex.now c.colours.ensures.simplex c.colours-2.ensures.simplex (omega (arith, some, count))
