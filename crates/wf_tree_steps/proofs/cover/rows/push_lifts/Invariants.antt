use Rattle.std.proofs.Common.{◌≡◌, ◌≤◌, ◌++◌, length, map}
use Rattle.wf_model.specs.Lists.{below}
use Rattle.wf_tree_model.specs.Counting.Signs.{keep}
use Rattle.wf_tree_model.specs.Covers.{lifted}
use Rattle.wf_tree_steps.specs.Cover.LiftSeen.{lift_seen}
use Rattle.wf_tree_steps.proofs.cover.rows.push_lifts.Given as goal

abbrev pub invariant-sheets : goal.invariant-sheets
invariant-sheets l = record {
  within : length l.found.items ≤ l.most;
  made : l.found.items ≡ l.initial.found.items ++ map (λ sheet. keep l.mask (lifted (lift_seen l.lift) l.row sheet)) (below l.sheet);
}
