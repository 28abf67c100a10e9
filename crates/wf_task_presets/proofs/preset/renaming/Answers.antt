use Rattle.std.proofs.Common.{[], ◌∷◌, nat_lt, sum_by, length, Ok, sym, ap, ◌∙◌}
use Rattle.wf_model.specs.Simplex.{complex_of}
use Rattle.wf_task_presets.specs.declared.family.Family.TheVariants.{Naming}
use Rattle.wf_task_presets.specs.Family.{tuples_for, at_most}
use Rattle.wf_task_presets.proofs.RenamingOutputs.{start}
use Rattle.wf_task_presets.proofs.PresetLimits.{named-bounds, renaming-processes, renaming-value, renaming-judged, counted_more, counted_few, renaming-outputs-refused, renaming-refused, renaming-made, renaming-is-task, renaming-few}
use Rattle.wf_task_presets.proofs.preset.renaming.Goals as goal

pub returns-then-not-has_processes : goal.returns-then-not-has_processes
returns-then-not-has_processes c = renaming-processes c.args.processes c.args.names (sym c.has_processes.ensures ∙ c.if-not-has_processes.true)

pub returns-then-not-has_values : goal.returns-then-not-has_values
returns-then-not-has_values c = renaming-value c.args.processes c.args.names (sym c.has_processes.ensures ∙ c.if-not-has_processes.false) (sym c.has_values.ensures ∙ c.if-not-has_values.true)

pub returns-then-is_none : goal.returns-then-is_none
returns-then-is_none c =
    let n = c.args.processes in
    let names = c.args.names in
    let processes = sym c.has_processes.ensures ∙ c.if-not-has_processes.false in
    let values = sym c.has_values.ensures ∙ c.if-not-has_values.false in
    let named = named-bounds n names processes values in
    let counted = c.in_ok-count.ensures ∙ ap (λ s. at_most 65536 (length (tuples_for (Naming names) s))) c.all_processes-whole.ensures in
    renaming-judged n names processes values
    ∙ renaming-outputs-refused n names named (counted_more c.in_ok-count.field-0 65536 (length (tuples_for (Naming names) (start n))) counted c.if-is_none.ensures)

pub returns-then-branch : goal.returns-then-branch
returns-then-branch c =
    let n = c.args.processes in
    let names = c.args.names in
    let processes = sym c.has_processes.ensures ∙ c.if-not-has_processes.false in
    let values = sym c.has_values.ensures ∙ c.if-not-has_values.false in
    let named = named-bounds n names processes values in
    let counted = c.in_ok-count.ensures ∙ ap (λ s. at_most 65536 (length (tuples_for (Naming names) s))) c.all_processes-whole.ensures in
    let few = counted_few c.in_ok-count.field-0 65536 (length (tuples_for (Naming names) (start n))) counted c.if-is_none.ensures in
    let made = c.in_ok-complex.ensures ∙ ap (λ s. complex_of (s ∷ [])) c.all_processes-whole.ensures in
    let all = sym (c.in_ok-has_more_tuples.ensures ∙ ap (λ complex. nat_lt 65536 (sum_by (λ s. length (tuples_for (Naming names) s)) complex)) c.simplices.ensures.simplices) ∙ c.if-branch.true in
    renaming-judged n names processes values ∙ renaming-refused n names named c.in_ok-complex.complex made few all

pub task_for-requires-clause-task : goal.task_for-requires-clause-task
task_for-requires-clause-task c =
    let n = c.args.processes in
    let names = c.args.names in
    let processes = sym c.has_processes.ensures ∙ c.if-not-has_processes.false in
    let values = sym c.has_values.ensures ∙ c.if-not-has_values.false in
    let named = named-bounds n names processes values in
    let made = c.in_ok-complex.ensures ∙ ap (λ s. complex_of (s ∷ [])) c.all_processes-whole.ensures in
    let all = sym (c.in_ok-has_more_tuples.ensures ∙ ap (λ complex. nat_lt 65536 (sum_by (λ s. length (tuples_for (Naming names) s)) complex)) c.simplices.ensures.simplices) ∙ c.if-branch.false in
    renaming-is-task n names named c.in_ok-complex.complex made all

pub task_for-requires-clause-few : goal.task_for-requires-clause-few
task_for-requires-clause-few c =
    let n = c.args.processes in
    let names = c.args.names in
    let processes = sym c.has_processes.ensures ∙ c.if-not-has_processes.false in
    let values = sym c.has_values.ensures ∙ c.if-not-has_values.false in
    let named = named-bounds n names processes values in
    let counted = c.in_ok-count.ensures ∙ ap (λ s. at_most 65536 (length (tuples_for (Naming names) s))) c.all_processes-whole.ensures in
    let few = counted_few c.in_ok-count.field-0 65536 (length (tuples_for (Naming names) (start n))) counted c.if-is_none.ensures in
    let made = c.in_ok-complex.ensures ∙ ap (λ s. complex_of (s ∷ [])) c.all_processes-whole.ensures in
    renaming-few n names named c.in_ok-complex.complex made few

pub returns : goal.returns
returns c =
    let n = c.args.processes in
    let names = c.args.names in
    let processes = sym c.has_processes.ensures ∙ c.if-not-has_processes.false in
    let values = sym c.has_values.ensures ∙ c.if-not-has_values.false in
    let named = named-bounds n names processes values in
    let counted = c.in_ok-count.ensures ∙ ap (λ s. at_most 65536 (length (tuples_for (Naming names) s))) c.all_processes-whole.ensures in
    let few = counted_few c.in_ok-count.field-0 65536 (length (tuples_for (Naming names) (start n))) counted c.if-is_none.ensures in
    let made = c.in_ok-complex.ensures ∙ ap (λ s. complex_of (s ∷ [])) c.all_processes-whole.ensures in
    let all = sym (c.in_ok-has_more_tuples.ensures ∙ ap (λ complex. nat_lt 65536 (sum_by (λ s. length (tuples_for (Naming names) s)) complex)) c.simplices.ensures.simplices) ∙ c.if-branch.false in
    renaming-judged n names processes values ∙ renaming-made n names named c.in_ok-complex.complex made few all ∙ ap Ok (sym c.in_ok-task_for.ensures)
