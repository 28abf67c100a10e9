use Rattle.std.proofs.Common.{◌≡◌, ◌<◌, ◌≤◌, ◌∷◌, ◌++◌, [], get_or, length, map, slice_set, vec_items, sym, ap, ◌∙◌, subst, arith}
use Rattle.std.proofs.lemmas.List.{length-map, map-set, get_or-map}
use Rattle.wf_sat_cnf.specs.Groups.{AreGroups, group_of}
use Rattle.wf_sat_cnf.proofs.GroupLemmas.{groups_past, groups_more}
use Rattle.wf_sat_cnf.proofs.groups.put.Goals as goal

pub returns-then-place-size-clause-more : goal.returns-then-place-size-clause-more
returns-then-place-size-clause-more c = λ tuples so_far.
    let past : length c.args.tuple.now ≤ c.args.place = omega (arith, c.size.ensures.count, c.if-place-size.true) in
    groups_past c.args.place tuples c.args.tuple.now (map vec_items c.args.lists.now) past so_far

pub returns-clause-more : goal.returns-clause-more
returns-clause-more c = λ tuples so_far.
    let groups = map vec_items c.args.lists.now in
    let v = c.value-value.result in
    let low : c.args.place < length c.args.tuple.now = omega (arith, c.size.ensures.count, c.if-place-size.false) in
    let inside : v < length c.args.lists.now = omega (arith, c.requires) in
    let old : vec_items (get_or c.args.lists.now v c.index-lists-value.result) ≡ group_of v groups =
    sym (get_or-map vec_items c.args.lists.now v c.index-lists-value.result [] inside) in
    subst (AreGroups c.args.place (tuples ++ c.args.tuple.now ∷ []))
    (sym (map-set vec_items c.args.lists.now v c.push.new.self ∙ ap (slice_set groups v) (c.in_ok-push.ensures.items ∙ ap (λ ts. ts ++ c.args.tuple.now ∷ []) old)))
    (groups_more c.args.place tuples c.args.tuple.now groups v low c.value-value.ensures (omega (arith, inside, length-map c.args.lists.now (vec_items))) so_far)
