use Rattle.std.proofs.Common.{◌≡◌, ◌<◌, ◌+◌, ◌%◌, drop}
use Rattle.wf_tree_model.specs.Balance.{weight_of_vertices}
use Rattle.wf_tree_steps.specs.Balance.Multipliers.{multipliers_seen}
use Rattle.wf_tree_steps.proofs.balance.check.sum_of_vertices.Given as goal

abbrev pub invariant-multipliers : goal.invariant-multipliers
invariant-multipliers l = record {
  same : (l.sum + weight_of_vertices l.task (multipliers_seen (drop l.multiplier-index l.multipliers))) % l.modulus ≡ weight_of_vertices l.task (multipliers_seen l.multipliers) % l.modulus;
  small : l.sum < l.modulus;
}
