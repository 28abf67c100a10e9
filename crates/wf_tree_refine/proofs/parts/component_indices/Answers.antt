use Rattle.std.proofs.Common.{◌≡◌, ◌+◌, length, map, refl, sym, ap, ◌∙◌, subst, arith}
use Rattle.wf_tree_refine.specs.Forest.{AreParents, IsForest}
use Rattle.wf_tree_refine.proofs.Membership.{once_in_order}
use Rattle.wf_tree_refine.proofs.Numbers.{IsFinest, are_numbers, finest_joined, both_ok, finest_passed, long_rows}
use Rattle.wf_tree_model.specs.Parts.{parts}
use Rattle.wf_tree_refine.specs.Near.{near_by, part_of}
use Rattle.std.proofs.lemmas.List.{with_items_is}
use Rattle.wf_tree_refine.proofs.parts.component_indices.Goals as goal
use Rattle.wf_tree_refine.proofs.parts.component_indices.Goals.{then-may_differ+in_ok-join_at, else-may_differ}

pub places-preserved : goal.places-preserved
places-preserved c =
    let rows = c.args.rows.now in
    let ways = c.args.ways in
    let size = c.args.size in
    let place = c.places.place in
    let before = c.places.invariant in
    elim c.if-may_differ.branch [
      | then-may_differ+in_ok-join_at w ↦
          let old = w.deref_mut.ensures.value in
          let long : length w.join_at.new.parents ≡ c.places.parents.len = w.join_at.auto.parents ∙ w.deref_mut.ensures.len in
          let items = ap (λ r. r.items) w.parents-is ∙ with_items_is c.places.parents w.join_at.new.parents long in
          let start = subst (λ ps. IsForest ps before.labels.0) (sym old) before.labels.1 in
          let so = w.in_ok-join_at.ensures.joined before.labels.0 start in
          let differ = sym c.may_differ.ensures ∙ w.if-may_differ.true in
          record {
            each = ap length items ∙ w.join_at.auto.parents ∙ ap length old ∙ before.each;
            parents = subst AreParents (sym items) w.in_ok-join_at.ensures.parents;
            labels = (
              so.0,
              subst (λ ps. IsForest ps so.0) (sym items) so.1,
              finest_joined ways size rows place (place + 1) before.labels.0 so.0 refl c.places-test.true differ so.2 w.in_ok-join_at.ensures.small before.labels.2,
            );
          }
      | else-may_differ w ↦
          let items = ap (λ r. r.items) w.parents-is in
          let differ = sym c.may_differ.ensures ∙ w.if-may_differ.false in
          record {
            each = ap length items ∙ before.each;
            parents = subst AreParents (sym items) before.parents;
            labels = (before.labels.0, subst (λ ps. IsForest ps before.labels.0) (sym items) before.labels.1, finest_passed ways size rows place (place + 1) before.labels.0 refl differ before.labels.2);
          }
    ]

pub returns : goal.returns
returns c =
    let rows = c.args.rows.now in
    let ways = c.args.ways in
    let size = c.args.size in
    let so = c.places.invariant.labels in
    let value = c.deref.ensures.value in
    let forest = subst (λ ps. IsForest ps so.0) (sym value) so.1 in
    let each = ap length value ∙ c.places.invariant.each in
    let past : c.places.place ≡ size = omega (arith, c.places-test.false) in
    let finest = subst (λ n. IsFinest ways size rows n so.0) past so.2 in
    both_ok c.ranks.result _ _ (λ numbers. numbers.items ≡ map (part_of (parts (near_by ways size) rows)) rows)
    (λ numbers count is. are_numbers ways size rows (once_in_order rows c.requires.ascending) (long_rows size rows c.requires.long) so.0
    (λ i low. forest.low i (omega (arith, low, each))) (λ i low. forest.still i (omega (arith, low, each))) finest
    numbers.items (count ∙ each) (λ i low. is so.0 forest i (omega (arith, low, each))))
    c.ranks.ensures.count c.ranks.ensures.ranks
