use Rattle.std.proofs.Common.{◌≡◌, ◌≤◌, drop, length}
use Rattle.wf_tree_refine.specs.Keys.{key_without}
use Rattle.wf_tree_refine.proofs.key.key_without.Given as goal

abbrev pub invariant-places : goal.invariant-places
invariant-places l = record {
  same : l.key ≡ key_without l.skipped l.place (drop l.place l.row);
  inside : l.place ≤ length l.row;
}
