use Rattle.std.proofs.Common.{◌≡◌, length, map, slice_index, take, vec_items}
use Rattle.wf_tree_refine.proofs.names.row_of.Given as goal

abbrev pub invariant-places : goal.invariant-places
invariant-places l = record {
  long : length l.values ≡ 4;
  row : take l.place l.values ≡ map (λ column. slice_index column l.number) (take l.place (map vec_items l.columns));
}
