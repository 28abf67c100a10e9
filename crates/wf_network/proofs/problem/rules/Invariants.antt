use Rattle.std.proofs.Common.{◌≡◌, All, length, map, take}
use Rattle.wf_network.specs.Problems.{AreAlike, IsWide, KeepsProcesses, rule_seen}
use Rattle.wf_network.proofs.problem.rules.Given as goal

abbrev pub invariant-loop-number : goal.invariant-loop-number
invariant-loop-number l = (map rule_seen l.rules.items ≡ take l.number l.task.delta) × All IsWide l.rules.items × All KeepsProcesses l.rules.items × AreAlike l.rules.items × (length l.rules.items ≡ l.number)
