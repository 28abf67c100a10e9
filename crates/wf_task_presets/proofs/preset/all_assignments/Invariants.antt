use Rattle.std.proofs.Common.{◌≡◌, take, length, zip, map}
use Rattle.wf_model.specs.Lists.{lists_of}
use Rattle.wf_model.specs.Simplex.{processes_of}
use Rattle.wf_task_presets.proofs.preset.all_assignments.Given as goal

abbrev pub invariant-loop-number : goal.invariant-loop-number
invariant-loop-number l = l.facets.items ≡ map (zip (processes_of l.whole)) (take l.number (lists_of l.values (length l.whole)))
