use Rattle.std.proofs.Common.{ap, ◌∙◌, lit≤}
use Rattle.wf_simplex.specs.Reading.{read_fault}
use Rattle.wf_simplex.proofs.Lemmas.{read_fault-within}
use Rattle.wf_task.proofs.Lemmas.{within_more}
use Rattle.wf_task_presets.proofs.RenamingOutputs.{start}
use Rattle.wf_task_presets.proofs.PresetLimits.{first_four, start-within}
use Rattle.wf_task_presets.proofs.preset.all_processes.Goals as goal

pub unreachable-requires : goal.unreachable-requires
unreachable-requires c =
    let n = c.args.processes in
    let none = ap read_fault (first_four n c.requires.few) ∙ read_fault-within (start n) (within_more n 63 4 255 (start n) c.requires.few (lit≤ tt) (start-within n c.requires.some c.requires.few)) in
    let some = c.in-Err.ensures in
    cc (none, some)

pub returns : goal.returns
returns c = c.in-Ok.ensures.1 ∙ first_four c.args.processes c.requires.few
