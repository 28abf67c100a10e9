use Rattle.std.proofs.Common.{map, vec_items, ap, ◌∙◌, subst, arith}
use Rattle.std.proofs.lemmas.Result.{IfOk-weaker}
use Rattle.serde_json.specs.View.{view}
use Rattle.wf_task.specs.Canonical.{IsListable, list_data, simplex_data, rule_data, task_data}
use Rattle.wf_task.specs.TaskSeen.{rules_seen}
use Rattle.wf_task.proofs.TaskSeen.{length-rules_seen}
use Rattle.wf_task.proofs.CanonicalLoops.{value_is, few_of}
use Rattle.wf_task.proofs.task.Task.value.Goals as goal

pub facets-requires : goal.facets-requires
facets-requires c =
    let inside = c.self.inside in
    let rows = map vec_items inside.tuples.items in
    few_of inside.inputs (omega (arith, c.self.invariant.task.limits.inputs, length-rules_seen inside.inputs rows c.self.invariant.each, c.self.invariant.each))

pub returns-clause-value : goal.returns-clause-value
returns-clause-value c =
    let inside = c.self.inside in
    let rows = map vec_items inside.tuples.items in
    IfOk-weaker c.task_value.result _ _
    (λ v e. e
    ∙ value_is inside.least_block inside.processes inside.symmetric inside.inputs rows inside.outputs (view c.in_ok-inputs.inputs) (view c.in_ok-outputs.outputs) (view c.in_ok-delta.delta) c.self.invariant.each
    (c.in_ok-inputs.ensures ∙ ap (list_data simplex_data) (c.deref-2.ensures.value ∙ c.in_ok-facets.ensures.facets))
    (c.in_ok-outputs.ensures ∙ ap (list_data simplex_data) (c.deref-3.ensures.value ∙ c.in_ok-facets-2.ensures.facets))
    (c.in_ok-delta.ensures ∙ (λ j. list_data rule_data (rules_seen (c.simplices.ensures.simplices j) (map vec_items (c.deref.ensures.value j)))))
    ∙ ap task_data c.self.view_is)
    c.task_value.ensures

pub returns-clause-listable : goal.returns-clause-listable
returns-clause-listable c =
    let listable = subst IsListable c.self.view_is (record { task = c.self.invariant.task; few = c.self.invariant.few_outputs; outputs = c.in_ok-facets-2.ensures.complex }) in
    IfOk-weaker c.task_value.result _ _ (λ v e. listable) c.task_value.ensures
