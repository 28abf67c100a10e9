use Rattle.std.proofs.Common.{◌==◌, not, nat_lt, sum_by, length, Ok, sym, ap, ◌∙◌, eq-eqb}
use Rattle.std.proofs.lemmas.Result.{err_from_is_err_and}
use Rattle.std.proofs.lemmas.Bool.{or_left, or_right}
use Rattle.wf_model.specs.Presets as model
use Rattle.wf_task_presets.specs.declared.family.Family.TheVariants.{Agreement}
use Rattle.wf_task_presets.specs.Family.{tuples_for}
use Rattle.wf_task_presets.specs.Preset.{inputs_seen, has_input_values, set_agreement_of}
use Rattle.wf_task_presets.proofs.FamilyTasks.{same_inputs}
use Rattle.wf_task_presets.proofs.PresetLimits.{IsMade, bounds, choice_bounds, agreement_inputs, agreement-processes, agreement-value, agreement-judged, no-value, refused-through, agreement-refused, agreement-made, agreement-is-task, agreement-few}
use Rattle.wf_task_presets.proofs.preset.set_agreement.Goals as goal
use Rattle.wf_task_presets.proofs.preset.set_agreement.Goals.{then-k-eq0-via-then-k-eq0, then-k-eq0-via-else-k-eq0+then-not-has_values}

pub returns-then-not-has_processes : goal.returns-then-not-has_processes
returns-then-not-has_processes c = agreement-processes c.args.processes c.args.k c.args.inputs (sym c.has_processes.ensures ∙ c.if-not-has_processes.true)

pub returns-then-k-eq0 : goal.returns-then-k-eq0
returns-then-k-eq0 c =
    let value = agreement-value c.args.processes c.args.k c.args.inputs (sym c.has_processes.ensures ∙ c.if-not-has_processes.false) in
    elim c.then-k-eq0.branch [
      | then-k-eq0-via-then-k-eq0 w ↦ value (or_left (c.args.k == 0) (not (has_input_values c.args.inputs)) (eq-eqb c.args.k 0 w.if-k-eq0.true))
      | then-k-eq0-via-else-k-eq0+then-not-has_values w ↦ value (or_right (c.args.k == 0) (not (has_input_values c.args.inputs)) (ap not (sym w.has_values.ensures ∙ w.if-not-has_values.true)))
    ]

pub returns-in_err-complex : goal.returns-in_err-complex
returns-in_err-complex c =
    let n = c.args.processes in
    let choice = inputs_seen c.args.inputs in
    let judged = agreement-judged n c.args.k c.args.inputs (sym c.has_processes.ensures ∙ c.if-not-has_processes.false) (no-value c.args.k c.args.inputs c.if-k-eq0.false (sym c.has_values.ensures ∙ c.if-not-has_values.false)) in
    let p = err_from_is_err_and c.from_residual.result c.from_residual.ensures.1 in
    rw (p.1, p.2) (refused-through (model.set_agreement n c.args.k choice) (agreement_inputs n choice) c.in_err-complex.field-0.0 (set_agreement_of n c.args.k c.args.inputs) (same_inputs (Agreement c.args.k) (agreement_inputs n choice)) judged c.in_err-complex.ensures)

pub returns-then-branch : goal.returns-then-branch
returns-then-branch c =
    let n = c.args.processes in
    let choice = inputs_seen c.args.inputs in
    let processes = sym c.has_processes.ensures ∙ c.if-not-has_processes.false in
    let values = sym c.has_values.ensures ∙ c.if-not-has_values.false in
    let made : IsMade n choice c.in_ok-complex.complex = record { some = (bounds n processes).0; few = (bounds n processes).1; is_choice = choice_bounds c.args.inputs values; judged = c.in_ok-complex.ensures } in
    let counted = sym (c.in_ok-has_more_tuples.ensures ∙ ap (λ complex. nat_lt 65536 (sum_by (λ s. length (tuples_for (Agreement c.args.k) s)) complex)) c.simplices.ensures.simplices) ∙ c.if-branch.true in
    agreement-judged n c.args.k c.args.inputs processes (no-value c.args.k c.args.inputs c.if-k-eq0.false values)
    ∙ agreement-refused n c.args.k choice c.in_ok-complex.complex made counted

pub task_for-requires-clause-task : goal.task_for-requires-clause-task
task_for-requires-clause-task c =
    let n = c.args.processes in
    let choice = inputs_seen c.args.inputs in
    let processes = sym c.has_processes.ensures ∙ c.if-not-has_processes.false in
    let values = sym c.has_values.ensures ∙ c.if-not-has_values.false in
    let made : IsMade n choice c.in_ok-complex.complex = record { some = (bounds n processes).0; few = (bounds n processes).1; is_choice = choice_bounds c.args.inputs values; judged = c.in_ok-complex.ensures } in
    let counted = sym (c.in_ok-has_more_tuples.ensures ∙ ap (λ complex. nat_lt 65536 (sum_by (λ s. length (tuples_for (Agreement c.args.k) s)) complex)) c.simplices.ensures.simplices) ∙ c.if-branch.false in
    agreement-is-task n c.args.k choice c.in_ok-complex.complex made counted

pub task_for-requires-clause-few : goal.task_for-requires-clause-few
task_for-requires-clause-few c =
    let n = c.args.processes in
    let choice = inputs_seen c.args.inputs in
    let processes = sym c.has_processes.ensures ∙ c.if-not-has_processes.false in
    let values = sym c.has_values.ensures ∙ c.if-not-has_values.false in
    let made : IsMade n choice c.in_ok-complex.complex = record { some = (bounds n processes).0; few = (bounds n processes).1; is_choice = choice_bounds c.args.inputs values; judged = c.in_ok-complex.ensures } in
    agreement-few n c.args.k choice c.in_ok-complex.complex made

pub returns : goal.returns
returns c =
    let n = c.args.processes in
    let choice = inputs_seen c.args.inputs in
    let processes = sym c.has_processes.ensures ∙ c.if-not-has_processes.false in
    let values = sym c.has_values.ensures ∙ c.if-not-has_values.false in
    let made : IsMade n choice c.in_ok-complex.complex = record { some = (bounds n processes).0; few = (bounds n processes).1; is_choice = choice_bounds c.args.inputs values; judged = c.in_ok-complex.ensures } in
    let counted = sym (c.in_ok-has_more_tuples.ensures ∙ ap (λ complex. nat_lt 65536 (sum_by (λ s. length (tuples_for (Agreement c.args.k) s)) complex)) c.simplices.ensures.simplices) ∙ c.if-branch.false in
    agreement-judged n c.args.k c.args.inputs processes (no-value c.args.k c.args.inputs c.if-k-eq0.false values)
    ∙ agreement-made n c.args.k choice c.in_ok-complex.complex made counted ∙ ap Ok (sym c.in_ok-task_for.ensures)
