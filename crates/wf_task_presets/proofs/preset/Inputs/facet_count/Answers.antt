use Rattle.std.proofs.Common.{length, sym, ap, ◌∙◌}
use Rattle.wf_model.specs.Presets.{input_facets}
use Rattle.wf_task_presets.specs.Preset.{inputs_seen}
use Rattle.wf_task_presets.proofs.AgreementOutputs.{length-input_facets}
use Rattle.wf_task_presets.proofs.preset.Inputs.facet_count.Goals as goal

pub returns-in-All : goal.returns-in-All
returns-in-All c =
    c.list_count.ensures ∙ sym (length-input_facets c.args.processes c.in-All.values)
    ∙ ap (λ choice. length (input_facets c.args.processes (inputs_seen choice))) (sym c.in-All.is)
