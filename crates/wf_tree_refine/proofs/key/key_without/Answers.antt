use Rattle.std.proofs.Common.{◌≡◌, ◌≤◌, ◌-◌, ◌+◌, ◌*◌, length, get_or, sym, ap, ◌∙◌, arith}
use Rattle.std.proofs.lemmas.Bool.{cond-true, eq-eqb}
use Rattle.std.proofs.lemmas.List.Elements.{recursion_from_All}
use Rattle.wf_tree_refine.proofs.KeyLemmas.{room, key_more, shown, shown_other}
use Rattle.wf_tree_refine.proofs.key.key_without.Goals as goal
use Rattle.wf_tree_refine.proofs.key.key_without.Goals.{then-place-skipped, else-place-skipped}

pub overflow_mul-key : goal.overflow_mul-key
overflow_mul-key c =
    let xs = c.args.row.now in
    let few : length xs ≤ 4 = omega arith in
    let small = room xs c.places.place c.args.skipped c.places.key c.places-test.true (recursion_from_All (λ x. x ≤ 255) xs c.size-place.ensures.small) few c.places.invariant.same in
    omega (arith, small)

pub overflow_add-key : goal.overflow_add-key
overflow_add-key c =
    let xs = c.args.row.now in
    let few : length xs ≤ 4 = omega arith in
    let small = room xs c.places.place c.args.skipped c.places.key c.places-test.true (recursion_from_All (λ x. x ≤ 255) xs c.size-place.ensures.small) few c.places.invariant.same in
    let value : c.if-place-skipped.value ≤ 255 = elim c.if-place-skipped.branch [ then-place-skipped w ↦ omega (arith, w.value-is) | else-place-skipped w ↦ omega (arith, w.value-is) ] in
    omega (arith, small, value, c.from.ensures)

pub places-preserved : goal.places-preserved
places-preserved c =
    let xs = c.args.row.now in
    let next = c.places.place in
    let place = next - 1 in
    let some = c.places-test.true in
    let inside = c.places.invariant.inside in
    let here : c.if-place-skipped.value ≡ shown c.args.skipped place (get_or xs place 0) = elim c.if-place-skipped.branch [
      | then-place-skipped w ↦ w.value-is ∙ sym (cond-true _ _ _ (eq-eqb place c.args.skipped w.if-place-skipped.true))
      | else-place-skipped w ↦ w.value-is ∙ w.value-value.ensures ∙ sym (shown_other c.args.skipped place (get_or xs place 0) w.if-place-skipped.false)
    ] in
    record {
      same =
          let more = key_more xs c.args.skipped place next (omega (arith, some)) (omega (arith, some, inside)) in
          let before = c.places.invariant.same in
          sym (more ∙ ap (λ n. n * 256 + shown c.args.skipped place (get_or xs place 0)) (sym before) ∙ ap (λ n. c.places.key * 256 + n) (sym (c.from.ensures ∙ here)));
      inside = omega (arith, inside);
    }
