use Rattle.std.proofs.Common.{◌≡◌, ◌≤◌, drop, length, map}
use Rattle.wf_tree_steps.specs.Balance.Keys.{but, digits_code, label}
use Rattle.wf_tree_steps.proofs.balance.key.labels_code.Given as goal

abbrev pub invariant-places : goal.invariant-places
invariant-places l = record {
  same : l.code ≡ digits_code (but l.place l.skipped (drop l.place (map (label l.symmetric) l.simplex)));
  inside : l.place ≤ length l.simplex;
}
