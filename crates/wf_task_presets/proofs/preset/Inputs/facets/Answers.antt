use Rattle.std.proofs.Common.{◌++◌, ◌∷◌, [], length, zip, map, sym, ap, ◌∙◌}
use Rattle.std.proofs.lemmas.Result.{IfOk-weaker}
use Rattle.std.proofs.lemmas.List.FromFn.{length-range_with_len}
use Rattle.wf_model.specs.Lists.{below, lists_of}
use Rattle.wf_model.specs.Presets.{input_facets}
use Rattle.wf_model.specs.Simplex.{processes_of}
use Rattle.wf_task_presets.specs.Preset.{inputs_seen, has_input_values}
use Rattle.wf_task_presets.proofs.RenamingOutputs.{processes-start}
use Rattle.wf_task_presets.proofs.PresetLimits.{own_values, length-start, value_bounds}
use Rattle.wf_task_presets.proofs.preset.Inputs.facets.Goals as goal

pub with_values-requires : goal.with_values-requires
with_values-requires c =
    let n = c.args.processes in
    ap length (c.new-own.ensures ∙ own_values n c.requires.few) ∙ length-range_with_len 0 n ∙ sym (length-start n) ∙ ap length (sym c.all_processes-whole.ensures)

pub numbers_below-requires : goal.numbers_below-requires
numbers_below-requires c = (value_bounds c.in-All.values (ap has_input_values (sym c.in-All.is) ∙ c.requires.values)).1

pub returns-in_ok-push-in-Own : goal.returns-in_ok-push-in-Own
returns-in_ok-push-in-Own c =
    let n = c.args.processes in
    let processes = ap processes_of c.all_processes-whole.ensures ∙ processes-start (below n) in
    let own = c.new-own.ensures ∙ own_values n c.requires.few in
    c.in_ok-push-in-Own.ensures.items
    ∙ ap (λ xs. xs ++ c.with_values.result ∷ []) c.new-facets.ensures.items
    ∙ ap (λ s. s ∷ []) (c.with_values.ensures ∙ (λ j. zip (processes j) (own j)))
    ∙ ap (λ choice. input_facets n (inputs_seen choice)) (sym c.in-Own.is)

pub returns-in_ok-values-in-All : goal.returns-in_ok-values-in-All
returns-in_ok-values-in-All c =
    let n = c.args.processes in
    let processes = ap processes_of c.all_processes-whole.ensures ∙ processes-start (below n) in
    let size = ap length c.all_processes-whole.ensures ∙ length-start n in
    let values = c.deref.ensures.value ∙ c.in_ok-values-in-All.ensures.numbers in
    IfOk-weaker c.all_assignments.result _ _
    (λ v e. e ∙ (λ j. map (zip (processes j)) (lists_of (values j) (size j))) ∙ ap (λ choice. input_facets n (inputs_seen choice)) (sym c.in-All.is)) c.all_assignments.ensures
