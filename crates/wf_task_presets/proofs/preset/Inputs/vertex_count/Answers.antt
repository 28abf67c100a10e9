use Rattle.std.proofs.Common.{◌*◌, sym, ap, ◌∙◌}
use Rattle.wf_model.specs.Presets.{input_facets}
use Rattle.wf_model.specs.Simplex.{complex_of}
use Rattle.wf_task_presets.specs.Preset.{inputs_seen}
use Rattle.wf_task_presets.proofs.AgreementOutputs.{count-vertices, count-vertices-own}
use Rattle.wf_task_presets.proofs.PresetLimits.{vertex_count}
use Rattle.wf_task_presets.proofs.preset.Inputs.vertex_count.Goals as goal

pub returns-in-Own : goal.returns-in-Own
returns-in-Own c =
    c.from.ensures ∙ sym (count-vertices-own c.args.processes c.requires.some c.requires.few)
    ∙ ap (λ choice. vertex_count (complex_of (input_facets c.args.processes (inputs_seen choice)))) (sym c.in-Own.is)

pub returns-in-All : goal.returns-in-All
returns-in-All c =
    ap (λ n. n * c.in-All.values) c.from-in-All.ensures ∙ sym (count-vertices c.args.processes c.in-All.values)
    ∙ ap (λ choice. vertex_count (complex_of (input_facets c.args.processes (inputs_seen choice)))) (sym c.in-All.is)
