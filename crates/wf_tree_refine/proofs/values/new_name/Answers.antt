use Rattle.std.proofs.Common.{◌≡◌, ◌+◌, suc, flat_map, map, sym, ap, ◌∙◌, arith, take_all, vec_items}
use Rattle.std.proofs.lemmas.List.{length-map}
use Rattle.wf_model.specs.Task.{inputs}
use Rattle.wf_tree_model.specs.Trees.{largest}
use Rattle.wf_tree_refine.proofs.LargestSteps.{all_values, flat_of_map, largest_more}
use Rattle.wf_tree_refine.proofs.values.new_name.Goals as goal

pub simplices-preserved : goal.simplices-preserved
simplices-preserved c = record {
  most = largest_more (λ v. flat_map (λ tuple. tuple) (vec_items v)) c.args.rows.now c.simplices.tuples-index c.tuples-item.result c.simplices.most c.largest_of.result c.max-most.result c.simplices-test.true c.tuples-item.is c.simplices.invariant.most
      (c.largest_of.ensures ∙ ap (λ rows. largest (flat_map (λ tuple. tuple) rows)) c.deref.ensures.value) c.max-most.ensures;
  few = (let a = c.max-most.type_inv in omega (arith, a));
}

pub overflow_add-result : goal.overflow_add-result
overflow_add-result c = let few = c.simplices.invariant.few in omega (arith, few, c.from.ensures)

pub returns-clause-name : goal.returns-clause-name
returns-clause-name c =
    let rows = c.args.rows.now in
    let all = map vec_items rows in
    let count = length-map rows vec_items in
    let each = c.requires in
    let past = c.simplices-test.false in
    let whole = ap (λ vs. largest (flat_map (λ v. flat_map (λ tuple. tuple) (vec_items v)) vs)) (take_all c.simplices.tuples-index rows past) in
    let most = c.from.ensures ∙ c.simplices.invariant.most ∙ whole ∙ sym (ap largest (all_values (inputs c.args.task.now) all (omega (arith, count, each)) ∙ flat_of_map vec_items rows)) in
    (let e : c.from.result + 1 ≡ suc c.from.result = omega arith in e) ∙ ap suc most

pub returns-clause-few : goal.returns-clause-few
returns-clause-few c = let few = c.simplices.invariant.few in omega (arith, few, c.from.ensures)
