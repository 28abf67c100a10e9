use Rattle.std.proofs.Common.{◌≡◌, map, drop, not}
use Rattle.std.specs.List.{position_from}
use Rattle.wf_task_parse.specs.DraftSeen.{entry_seen}
use Rattle.wf_task.specs.Judge.{is_among}
use Rattle.wf_task.proofs.slots.first_stray.Given as goal

abbrev pub invariant-loop-place : goal.invariant-loop-place
invariant-loop-place l = position_from (λ rule. not (is_among l.inputs rule.input)) l.place (map entry_seen (drop l.place l.delta)) ≡ position_from (λ rule. not (is_among l.inputs rule.input)) 0 (map entry_seen l.delta)
