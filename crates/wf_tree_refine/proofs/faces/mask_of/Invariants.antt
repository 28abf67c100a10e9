use Rattle.std.proofs.Common.{◌≡◌, take}
use Rattle.wf_tree_model.specs.Tuples.{mask_of}
use Rattle.wf_tree_refine.proofs.faces.mask_of.Given as goal

abbrev pub invariant-places : goal.invariant-places
invariant-places l = record {
  room : l.mask.cap ≡ 4;
  made : l.mask.items ≡ mask_of l.face (take l.place l.simplex);
}
