use Rattle.std.proofs.Common.{◌≡◌, map, vec_items}
use Rattle.wf_model.specs.Lists.{below}
use Rattle.wf_tree_refine.specs.Names.{row_of}
use Rattle.wf_tree_refine.proofs.names.rows_of.Given as goal

abbrev pub invariant-numbers : goal.invariant-numbers
invariant-numbers l = record {
  rows : l.rows.items ≡ map (row_of (map vec_items l.columns)) (below l.number);
  room : l.rows.cap ≡ l.count;
}
