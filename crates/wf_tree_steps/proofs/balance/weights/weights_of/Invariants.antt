use Rattle.std.proofs.Common.{◌≡◌, ℕ, ◌<◌, ◌+◌, ◌%◌, All, drop, unwrap_or}
use Rattle.std.specs.BTreeMap.{get}
use Rattle.std.specs.Ordering.{nat_cmp}
use Rattle.std.specs.List.{AllByRecursion}
use Rattle.wf_tree_steps.specs.Balance.Keys.{weight_under}
use Rattle.wf_tree_steps.specs.Balance.Multipliers.{multipliers_seen}
use Rattle.wf_tree_steps.proofs.balance.weights.weights_of.Given as goal

abbrev pub invariant-multipliers : goal.invariant-multipliers
invariant-multipliers l = record {
  same : (q : ℕ) → (unwrap_or (get nat_cmp l.weights q) 0 + weight_under l.task (multipliers_seen (drop l.multiplier-index l.multipliers)) q) % l.modulus ≡ weight_under l.task (multipliers_seen l.multipliers) q % l.modulus;
  digits : AllByRecursion (λ x. All (λ v. v < 2047) x.others) (drop l.multiplier-index l.multipliers) → AllByRecursion (λ x. All (λ v. v < 2047) x.others) l.multipliers;
  small : (q : ℕ) → unwrap_or (get nat_cmp l.weights q) 0 < l.modulus;
}
