use Rattle.std.proofs.Common.{◌≡◌, ◌≤◌, drop, length}
use Rattle.wf_tree_steps.specs.Balance.Keys.{but, digits_code}
use Rattle.wf_tree_steps.proofs.balance.key.values_code.Given as goal

abbrev pub invariant-places : goal.invariant-places
invariant-places l = record {
  same : l.code ≡ digits_code (but l.place l.skipped (drop l.place l.values));
  inside : l.place ≤ length l.values;
}
