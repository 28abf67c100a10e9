use Rattle.std.proofs.Common.{◌≡◌, map, drop}
use Rattle.std.specs.List.{list_all}
use Rattle.wf_task_parse.specs.DraftSeen.{entry_seen}
use Rattle.wf_task.specs.Judge.{names_processes}
use Rattle.wf_task.proofs.judge.all_entries_name_processes.Given as goal

abbrev pub invariant-loop-entry : goal.invariant-loop-entry
invariant-loop-entry l = list_all (λ rule. names_processes l.processes rule.input) (map entry_seen (drop l.entry-index l.delta)) ≡ list_all (λ rule. names_processes l.processes rule.input) (map entry_seen l.delta)
