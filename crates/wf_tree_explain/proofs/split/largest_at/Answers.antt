use Rattle.std.proofs.Common.{List, ℕ, get_or, map, sym, ap, ◌∙◌, arith, take_all}
use Rattle.std.proofs.lemmas.List.{get_or-map, length-map}
use Rattle.wf_tree_model.specs.Trees.{largest}
use Rattle.wf_tree_refine.proofs.Lemmas.{value_more}
use Rattle.wf_tree_explain.proofs.split.largest_at.Goals as goal

pub rows-preserved : goal.rows-preserved
rows-preserved c =
    let rows = c.args.rows.now in
    let at : List ℕ → ℕ = λ row. get_or row c.args.place 0 in
    let i = c.rows.row-index in
    let row = c.row-item.result in
    let low = c.rows-test.true in
    let long = length-map rows at in
    value_more (map at rows) i c.value.result c.rows.most c.max-most.result (omega (arith, low, long))
    (c.value.ensures ∙ ap at c.row-item.is ∙ sym (get_or-map at rows i row c.value.result low)) c.rows.invariant c.max-most.ensures

pub returns : goal.returns
returns c =
    let rows = c.args.rows.now in
    let at : List ℕ → ℕ = λ row. get_or row c.args.place 0 in
    let high = c.rows-test.false in
    let long = length-map rows at in
    c.rows.invariant ∙ ap largest (take_all c.rows.row-index (map at rows) (omega (arith, high, long)))
