use Rattle.std.proofs.Common.{◌≡◌, drop}
use Rattle.wf_tree_steps.specs.Balance.Judge.{multipliers_fault}
use Rattle.wf_tree_steps.specs.Balance.Multipliers.{multipliers_seen}
use Rattle.wf_tree_steps.proofs.balance.judge.judge_multipliers.Given as goal

abbrev pub invariant-multipliers : goal.invariant-multipliers
invariant-multipliers l = multipliers_fault l.task l.modulus l.place (multipliers_seen (drop l.place l.multipliers)) ≡ multipliers_fault l.task l.modulus 0 (multipliers_seen l.multipliers)
