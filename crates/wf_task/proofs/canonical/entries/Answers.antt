use Rattle.std.proofs.Common.{◌+◌, map, take, vec_items, ap, ◌∙◌, arith, take_all}
use Rattle.std.proofs.lemmas.List.{length-map}
use Rattle.serde_json.specs.Data.{array}
use Rattle.serde_json.specs.View.{view, items_of}
use Rattle.serde_json.proofs.Views.{view-Array}
use Rattle.wf_task.specs.Canonical.{rule_data}
use Rattle.wf_task_parse.specs.Shape.{rule_of}
use Rattle.wf_task.specs.TaskSeen.{rules_seen}
use Rattle.wf_task.proofs.TaskSeen.{length-rules_seen}
use Rattle.wf_task.proofs.CanonicalLoops.{rules_more, mapped_more}
use Rattle.wf_task.proofs.canonical.entries.Goals as goal

pub loop-place-preserved : goal.loop-place-preserved
loop-place-preserved c =
    let ss = c.args.inputs.now in
    let vs = c.args.tuples.now in
    let i = c.loop-place.place in
    let s = c.index-inputs-place.result in
    let v = c.index-tuples-place.result in
    let rules = rules_seen ss (map vec_items vs) in
    ap (map view) c.in_ok-push.ensures.items
    ∙ mapped_more view rule_data c.loop-place.entries.items (take i rules) (take (i + 1) rules) c.in_ok-entry.field-0 (rule_of s (vec_items v)) c.loop-place.invariant
    (c.in_ok-entry.ensures ∙ ap (λ ts. rule_data (rule_of s ts)) c.deref.ensures.value)
    (rules_more ss vs i s v (length-map vs vec_items ∙ c.requires) c.loop-place-test.true c.index-inputs-place.is c.index-tuples-place.is)

pub returns : goal.returns
returns c =
    let ss = c.args.inputs.now in
    let vs = c.args.tuples.now in
    let each = length-map vs vec_items ∙ c.requires in
    let rules = rules_seen ss (map vec_items vs) in
    view-Array c.loop-place.entries
    ∙ ap (λ ds. array (items_of ds)) (c.loop-place.invariant ∙ ap (map rule_data) (take_all c.loop-place.place rules (omega (arith, c.loop-place-test.false, length-rules_seen ss (map vec_items vs) each, each))))
