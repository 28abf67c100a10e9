use Rattle.std.proofs.Common.{◌<◌, [], Err, get_or, length, map, sym, ap, ◌∙◌, subst, arith, vec_items}
use Rattle.std.proofs.lemmas.List.{get_or-map, length-map}
use Rattle.std.proofs.lemmas.Result.{err_from_is_err_and}
use Rattle.wf_model.specs.Lists.{below}
use Rattle.wf_tree_refine.specs.Names.{row_of, splitting}
use Rattle.wf_tree_refine.proofs.NamedRows.{large_at, one_fault, rows_named}
use Rattle.wf_tree_refine.specs.declared.fault.RefineFault.TheVariants.{TooManyNames}
use Rattle.wf_tree_refine.proofs.names.named_rows.Goals as goal

pub returns-in_err-star_names-clause-refused : goal.returns-in_err-star_names-clause-refused
returns-in_err-star_names-clause-refused c = λ e.
    let p = err_from_is_err_and c.from_residual-in_err-star_names.result c.from_residual-in_err-star_names.ensures.1 in
    let low = c.places-test.true in
    let size = c.colours-size.ensures.count in
    large_at (splitting c.args.simplex.now c.args.rows.now c.args.new) c.args.rows.now c.places.place (omega (arith, low, size)) (c.in_err-star_names.ensures.refused (ap Err (sym p.2 ∙ one_fault c.from_residual-in_err-star_names.result p.0 TooManyNames p.1 e)))

pub rows_of-requires-clause-long : goal.rows_of-requires-clause-long
rows_of-requires-clause-long c = λ k d low.
    let columns = c.places.columns.items in
    let value = c.deref.ensures.value in
    let inside : k < length columns = subst (λ cs. k < length cs) value low in
    let count = c.places.invariant.count in
    let names = c.places.invariant.names k (omega (arith, inside, count)) in
    ap (λ cs. length (vec_items (get_or cs k d))) value ∙ ap length (sym (get_or-map vec_items columns k d [] inside) ∙ names) ∙ length-map c.args.rows.now ((splitting c.args.simplex.now c.args.rows.now c.args.new).name k)

pub returns-clause-named : goal.returns-clause-named
returns-clause-named c =
    let rows = c.args.rows.now in
    let columns = c.places.columns.items in
    let all = map vec_items columns in
    let value = c.deref.ensures.value in
    let count = c.places.invariant.count in
    let long = length-map columns vec_items in
    let size = c.colours-size.ensures.count in
    let past = c.places-test.false in
    let end = c.places.auto.place-end in
    c.in_ok-rows_of.ensures ∙ ap (λ cs. map (row_of (map vec_items cs)) (below (length rows))) value
    ∙ rows_named (splitting c.args.simplex.now rows c.args.new) rows all (omega (arith, long, count, size, past, end)) (λ p low. c.places.invariant.names p (omega (arith, low, long, count)))
