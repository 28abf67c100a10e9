use Rattle.std.proofs.Common.{◌≡◌, ◌≤◌, flat_map, length, take}
use Rattle.wf_tree_refine.specs.SplitSeen.{rule_of, split_seen}
use Rattle.wf_tree_refine.proofs.SplitSteps.{kept_named}
use Rattle.wf_tree_refine.proofs.splits.face_rows.Given as goal

abbrev pub invariant-rows : goal.invariant-rows
invariant-rows l = record {
  within : length l.found.items ≤ l.most;
  made : l.found.items ≡ flat_map (kept_named (split_seen l.split) (rule_of l.face l.allowed)) (take l.number l.split.rows.now);
}
