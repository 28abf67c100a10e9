use Rattle.std.proofs.Common.{◌≡◌, ◌++◌, take, zip, map}
use Rattle.wf_model.specs.Simplex.{processes_of}
use Rattle.wf_task_presets.proofs.preset.add_images.Given as goal

abbrev pub invariant-loop-row : goal.invariant-loop-row
invariant-loop-row l = l.images.items ≡ l.initial.images.items ++ map (zip (processes_of l.simplex)) (take l.row-index l.rows)
