use Rattle.std.proofs.Common.{◌≡◌, ◌≤◌, length, take}
use Rattle.wf_tree_steps.proofs.cover.rows.rows_within.Given as goal

abbrev pub invariant-rows : goal.invariant-rows
invariant-rows l = record {
  within : length l.found.items ≤ l.most;
  made : l.found.items ≡ take l.row-index l.rows;
}
