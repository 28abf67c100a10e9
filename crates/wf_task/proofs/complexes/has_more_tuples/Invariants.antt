use Rattle.std.proofs.Common.{◌≡◌, ◌+◌, map, take, sum_by, length}
use Rattle.wf_task_parse.specs.DraftSeen.{entry_seen}
use Rattle.wf_task.proofs.complexes.has_more_tuples.Given as goal

abbrev pub invariant-loop-entry : goal.invariant-loop-entry
invariant-loop-entry l = l.left + sum_by (λ rule. length rule.tuples) (map entry_seen (take l.entry-index l.delta)) ≡ l.most
