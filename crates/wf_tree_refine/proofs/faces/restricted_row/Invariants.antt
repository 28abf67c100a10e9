use Rattle.std.proofs.Common.{◌≡◌, ◌≤◌, ◌++◌, drop, length, take}
use Rattle.wf_tree_model.specs.Counting.Signs.{keep}
use Rattle.wf_tree_refine.proofs.faces.restricted_row.Given as goal

abbrev pub invariant-places : goal.invariant-places
invariant-places l = record {
  room : length l.values ≡ 4;
  few : l.size ≤ l.place;
  made : take l.size l.values ++ keep (drop l.place l.mask) (drop l.place l.row) ≡ keep l.mask l.row;
}
