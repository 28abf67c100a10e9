use Rattle.std.proofs.Common.{length, map, ap, ◌∙◌, arith, get_or, vec_items}
use Rattle.std.proofs.lemmas.List.{length-map}
use Rattle.wf_tree_model.specs.Counting.Rules.{no_rule}
use Rattle.wf_tree_refine.proofs.CaseSteps.{length_pushed, rows_pushed}
use Rattle.wf_tree_refine.proofs.FirstRows.{first_at_hand, same_task, tuples_here}
use Rattle.wf_tree_refine.proofs.rows.first_rows.Goals as goal

pub simplices-preserved : goal.simplices-preserved
simplices-preserved c =
    let t = c.args.task.now in
    let simplex = c.simplices.simplex in
    let before = c.simplices.invariant in
    let low = c.simplices-test.true in
    let all = ap length (c.simplices-count.ensures.simplices ∙ c.inputs.ensures.inputs) ∙ length-map t.delta (λ rule. rule.input) in
    record {
      count = ap length c.push_reserved.ensures.items ∙ length_pushed c.simplices.rows.items c.in_ok-copied.field-0 simplex before.count;
      room = c.push_reserved.ensures.capacity ∙ before.room;
      first = rows_pushed vec_items c.simplices.rows.items c.push_reserved.new.self.items c.in_ok-copied.field-0 simplex (λ i. (get_or t.delta i no_rule).tuples) before.count c.push_reserved.ensures.items before.first
          (c.in_ok-copied.ensures ∙ tuples_here t simplex c.tuples.result.now (omega (arith, low, all)) c.tuples.ensures);
    }

pub returns-clause-same : goal.returns-clause-same
returns-clause-same c =
    let t = c.args.task.now in
    let all = ap length (c.simplices-count.ensures.simplices ∙ c.inputs.ensures.inputs) ∙ length-map t.delta (λ rule. rule.input) in
    let past = c.simplices-test.false in
    let end = c.simplices.auto.simplex-end in
    let count = length-map c.simplices.rows.items vec_items ∙ c.simplices.invariant.count in
    same_task t (map vec_items c.simplices.rows.items) (omega (arith, count, past, end, all)) (λ i low. c.simplices.invariant.first i (omega (arith, low, past, all)))

pub returns-clause-at_hand : goal.returns-clause-at_hand
returns-clause-at_hand c =
    let t = c.args.task.now in
    let all = ap length (c.simplices-count.ensures.simplices ∙ c.inputs.ensures.inputs) ∙ length-map t.delta (λ rule. rule.input) in
    let past = c.simplices-test.false in
    let end = c.simplices.auto.simplex-end in
    let count = length-map c.simplices.rows.items vec_items ∙ c.simplices.invariant.count in
    first_at_hand t (map vec_items c.simplices.rows.items) c.inputs.ensures.task (omega (arith, count, past, end, all)) (λ i low. c.simplices.invariant.first i (omega (arith, low, past, all)))
