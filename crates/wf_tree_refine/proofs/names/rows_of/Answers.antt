use Rattle.std.proofs.Common.{◌++◌, ◌∷◌, [], length, map, sym, ap, ◌∙◌, arith, vec_items}
use Rattle.std.proofs.lemmas.List.FromFn.{length-map-range_with_len, map-range_with_len_more}
use Rattle.wf_model.specs.Lists.{below}
use Rattle.wf_tree_refine.specs.Names.{row_of}
use Rattle.wf_tree_refine.proofs.names.rows_of.Goals as goal

pub push_reserved-requires : goal.push_reserved-requires
push_reserved-requires c =
    let long = ap length c.numbers.invariant.rows ∙ length-map-range_with_len (row_of (map vec_items c.args.columns.now)) 0 c.numbers.number in
    let low = c.numbers-test.true in
    let room = c.numbers.invariant.room in
    let same = c.numbers.rows.ok.0 in
    omega (arith, long, low, room, same)

pub numbers-preserved : goal.numbers-preserved
numbers-preserved c =
    let f = row_of (map vec_items c.args.columns.now) in
    record {
      rows = c.push_reserved.ensures.items ∙ ap (λ xs. xs ++ c.row_of.result ∷ []) c.numbers.invariant.rows ∙ ap (λ x. map f (below c.numbers.number) ++ x ∷ []) c.row_of.ensures ∙ sym (map-range_with_len_more f 0 c.numbers.number c.numbers.number (omega arith));
      room = c.push_reserved.ensures.capacity ∙ c.numbers.invariant.room;
    }
