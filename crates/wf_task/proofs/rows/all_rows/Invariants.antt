use Rattle.std.proofs.Common.{◌≡◌, ◌≤◌, length, map, take, vec_items, vec_len, vec_capacity}
use Rattle.wf_task_parse.specs.DraftSeen.{entry_seen}
use Rattle.wf_task.specs.Tuples.{rows_at}
use Rattle.wf_task.proofs.rows.all_rows.Given as goal

abbrev pub invariant-loop-slot : goal.invariant-loop-slot
invariant-loop-slot l = record {
  found : map vec_items l.found.items ≡ map (rows_at (map entry_seen l.delta)) (take l.slot-index l.slots);
  count : vec_len l.found ≡ l.slot-index;
  room : length l.slots ≤ vec_capacity l.found;
}
