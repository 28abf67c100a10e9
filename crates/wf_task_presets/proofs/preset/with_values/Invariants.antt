use Rattle.std.proofs.Common.{◌≡◌, take, length, zip}
use Rattle.wf_model.specs.Simplex.{processes_of}
use Rattle.wf_task_presets.proofs.preset.with_values.Given as goal

abbrev pub invariant-loop-place : goal.invariant-loop-place
invariant-loop-place l = record {
  four : length l.pairs ≡ 4;
  made : take l.place l.pairs ≡ take l.place (zip (processes_of l.simplex) l.values);
}
