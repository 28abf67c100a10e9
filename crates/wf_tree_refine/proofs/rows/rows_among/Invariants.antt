use Rattle.std.proofs.Common.{◌≡◌, filter, take}
use Rattle.wf_tree_model.specs.Tuples.{has_tuple}
use Rattle.wf_tree_refine.proofs.rows.rows_among.Given as goal

abbrev pub invariant-rows : goal.invariant-rows
invariant-rows l = l.kept.items ≡ filter (has_tuple l.others) (take l.row-index l.rows)
