use Rattle.std.proofs.Common.{◌<◌, Some, length, map, option_map, slice_get, slice_index_or, vec_items, sym, ap, ◌∙◌, arith}
use Rattle.std.proofs.lemmas.List.{length-map}
use Rattle.wf_model.specs.Task.{Task}
use Rattle.wf_task.proofs.TaskSeen.{length-rules_seen, tuples_of_rule}
use Rattle.wf_task.proofs.task.Task.tuples.Goals as goal

pub bounds-tuples-place : goal.bounds-tuples-place
bounds-tuples-place c =
    let items = c.self.inside.tuples.items in
    let rules = ap (λ (t : Task). length t.delta) c.self.view_is in
    omega (arith, c.requires, rules, length-rules_seen c.self.inside.inputs (map vec_items items) c.self.invariant.each, length-map items vec_items, ap length c.as_slice-tuples.ensures.value)

pub returns : goal.returns
returns c =
    let items = c.self.inside.tuples.items in
    let rules = ap (λ (t : Task). length t.delta) c.self.view_is in
    let inside : c.args.simplex < length items = omega (arith, c.requires, rules, length-rules_seen c.self.inside.inputs (map vec_items items) c.self.invariant.each, length-map items vec_items) in
    let here = c.index-tuples-place.is ∙ ap (λ vs. slice_index_or vs c.args.simplex c.index-tuples-place.result) c.as_slice-tuples.ensures.value in
    ap (λ (t : Task). option_map (λ rule. rule.tuples) (slice_get t.delta c.args.simplex)) (sym c.self.view_is)
    ∙ tuples_of_rule c.self.inside.inputs items c.args.simplex c.index-tuples-place.result c.self.invariant.each inside here
    ∙ ap Some (sym c.as_slice.ensures.value)
