use Rattle.std.proofs.Common.{◌≡◌, ◌≤◌, flat_map, length, take}
use Rattle.wf_tree_refine.specs.SplitSeen.{rule_of}
use Rattle.wf_tree_steps.specs.Cover.LiftSeen.{lift_seen}
use Rattle.wf_tree_steps.proofs.OfCover.LiftSteps.{kept_lifts}
use Rattle.wf_tree_steps.proofs.cover.rows.face_rows.Given as goal

abbrev pub invariant-rows : goal.invariant-rows
invariant-rows l = record {
  within : length l.found.items ≤ l.most;
  made : l.found.items ≡ flat_map (kept_lifts (lift_seen l.lift) (rule_of l.face l.allowed)) (take l.row-index l.lift.rows.now);
}
