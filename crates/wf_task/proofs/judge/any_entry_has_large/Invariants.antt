use Rattle.std.proofs.Common.{◌≡◌, map, drop}
use Rattle.std.specs.List.{list_any}
use Rattle.wf_task_parse.specs.DraftSeen.{entry_seen}
use Rattle.wf_task.specs.Judge.{rule_has_large}
use Rattle.wf_task.proofs.judge.any_entry_has_large.Given as goal

abbrev pub invariant-loop-entry : goal.invariant-loop-entry
invariant-loop-entry l = list_any (rule_has_large l.largest) (map entry_seen (drop l.entry-index l.delta)) ≡ list_any (rule_has_large l.largest) (map entry_seen l.delta)
