use Rattle.std.proofs.Common.{◌≡◌, ◌-◌, ◌^◌, ◌<◌, ◌++◌, length, take}
use Rattle.wf_task.proofs.Lemmas.{list_at}
use Rattle.wf_task_presets.proofs.family.list_at.Given as goal

abbrev pub invariant-loop-place : goal.invariant-loop-place
invariant-loop-place l = record {
  four : length l.row ≡ 4;
  below : l.rest < length l.values ^ (l.size - l.place);
  made : take l.place l.row ++ list_at l.values (l.size - l.place) l.rest ≡ list_at l.values l.size l.number;
}
