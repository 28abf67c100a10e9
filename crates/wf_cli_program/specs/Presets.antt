-- A run with no source: the canonical text of a task that has a name.
use Rattle.std.specs.Prelude.{◌≡◌, ℕ, List, [], ◌∷◌, ◌++◌, Result, Ok, Err}
use Rattle.wf_model.specs.Task.{Task}
use Rattle.wf_task_parse.specs.declared.fault.TaskFault.{TaskFault}
use Rattle.wf_task.specs.Canonical.{canonical_text}
use Rattle.wf_task_presets.specs.Preset.{preset_task}
use Rattle.wf_task_presets.specs.declared.named.Preset.{Preset}
use Rattle.wf_base.specs.Streams.Seen.{Writing}
use Rattle.wf_run.specs.Faults.{of_task}
use Rattle.wf_run.specs.Run.{Ran}
use Rattle.wf_run.specs.declared.fault.RunFault.{RunFault}
use Rattle.wf_run.specs.declared.fault.RunFault.TheVariants.{OutOfMemory}

-- the canonical text of the preset's task and a line feed; or why there is no such task
abbrev pub IsPreset : Preset → Result (Unit {0} × List ℕ) RunFault → Type 0
IsPreset p (Ok answer) = (t : Task) × (preset_task p ≡ Ok t) × (answer.1 ≡ canonical_text t ++ 10 ∷ [])
IsPreset p (Err OutOfMemory) = Unit {0}
IsPreset p (Err e) = (fault : TaskFault) × (preset_task p ≡ Err fault) × (e ≡ of_task fault)

-- the text of a preset was written
abbrev pub WritesPreset : Preset → Writing → Writing → Result (Unit {0}) RunFault → Type 0
WritesPreset p sink sink' result = Ran (IsPreset p) sink sink' result
