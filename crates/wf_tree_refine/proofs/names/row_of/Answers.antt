use Rattle.std.proofs.Common.{◌<◌, get_or, length, map, subst, sym, ap, ◌∙◌, arith, vec_items}
use Rattle.std.proofs.Math.ListN.{length-set}
use Rattle.std.proofs.lemmas.Grind.{get_or_default_zero}
use Rattle.std.proofs.lemmas.List.{length-map}
use Rattle.wf_tree_refine.proofs.CaseSteps.{rows_here}
use Rattle.wf_tree_refine.proofs.NamedRows.{value_put}
use Rattle.wf_tree_refine.proofs.names.row_of.Goals as goal

pub places-preserved : goal.places-preserved
places-preserved c =
    let columns = map vec_items c.args.columns.now in
    let place = c.places.place in
    let inside = c.places-test.true in
    let column = c.index-columns-place.result in
    let count = length-map c.args.columns.now vec_items in
    let here = rows_here vec_items c.args.columns.now place column inside c.index-columns-place.is in
    let low : c.args.number < length column.items = subst (λ v. c.args.number < length v.items) (sym c.index-columns-place.is) (c.requires.inside place column inside) in
    let few = c.requires.few in
    let long = c.places.invariant.long in
    record {
      long = length-set c.places.values place c.index.result.now ∙ long;
      row = value_put c.places.values columns c.args.number place c.index.result.now (omega (arith, inside, few, long)) (omega (arith, inside, count)) c.places.invariant.row
          (c.index.ensures ∙ get_or_default_zero column.items c.args.number c.index.result.now low ∙ ap (λ xs. get_or xs c.args.number 0) (sym here));
    }
