use Rattle.std.proofs.Common.{◌≡◌, ◌≤◌, ◌*◌, unwrap_or}
use Rattle.std.specs.BTreeMap.{get}
use Rattle.std.specs.Ordering.{nat_cmp}
use Rattle.wf_tree_steps.specs.Balance.Keys.{sum_below, weight_at}
use Rattle.wf_tree_steps.proofs.balance.check.cancels.Given as goal

abbrev pub invariant-places : goal.invariant-places
invariant-places l = record {
  same : l.with ≡ sum_below (weight_at (λ q. unwrap_or (get nat_cmp l.weights q) 0) l.labels l.tuple) l.place;
  small : l.with ≤ l.place * 4294967296;
}
