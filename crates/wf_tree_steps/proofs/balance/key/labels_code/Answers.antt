use Rattle.std.proofs.Common.{◌≤◌, length, map, ◌-◌, sym, ap, ◌∙◌, arith}
use Rattle.std.proofs.lemmas.List.{length-map}
use Rattle.wf_tree_steps.specs.Balance.Keys.{digits_code, label}
use Rattle.wf_tree_steps.proofs.OfBalance.Digits.{but_skipped, label_digits, room, last_room}
use Rattle.wf_tree_steps.proofs.balance.key.labels_code.Goals as goal

pub overflow_mul-code : goal.overflow_mul-code
overflow_mul-code c =
    let xs = map (label c.args.symmetric) c.args.simplex.now in
    let few : length xs ≤ 4 = let e = c.colours-place.ensures in let l = length-map c.args.simplex.now (label c.args.symmetric) in omega (arith, e.count, e.few, l) in
    let small = room xs c.places.place c.args.skipped c.places.code c.places-test.true (label_digits c.args.symmetric c.args.simplex.now c.colours-place.ensures.simplex) few c.places.invariant.same in
    omega (arith, small)

pub overflow_add-code-then-place-skipped : goal.overflow_add-code-then-place-skipped
overflow_add-code-then-place-skipped c =
    let xs = map (label c.args.symmetric) c.args.simplex.now in
    let few : length xs ≤ 4 = let e = c.colours-place.ensures in let l = length-map c.args.simplex.now (label c.args.symmetric) in omega (arith, e.count, e.few, l) in
    let small = room xs c.places.place c.args.skipped c.places.code c.places-test.true (label_digits c.args.symmetric c.args.simplex.now c.colours-place.ensures.simplex) few c.places.invariant.same in
    omega (arith, small, c.label_at.ensures.small)

pub places-preserved : goal.places-preserved
places-preserved c =
    let xs = map (label c.args.symmetric) c.args.simplex.now in
    let long = length-map c.args.simplex.now (label c.args.symmetric) in
    let some = c.places-test.true in
    let inside = c.places.invariant.inside in
    let here = c.if-place-skipped.false in
    record {
      same = c.places.invariant.same ∙ sym (ap digits_code (but_skipped xs c.places.place (c.places.place - 1) c.args.skipped (omega (arith, some)) (omega (arith, some, inside, long)) here));
      inside = omega (arith, inside);
    }

pub returns-clause-small : goal.returns-clause-small
returns-clause-small c =
    let xs = map (label c.args.symmetric) c.args.simplex.now in
    let few : length xs ≤ 4 = let e = c.colours-place.ensures in let l = length-map c.args.simplex.now (label c.args.symmetric) in omega (arith, e.count, e.few, l) in
    last_room xs c.places.place c.args.skipped c.places.code (label_digits c.args.symmetric c.args.simplex.now c.colours-place.ensures.simplex) few c.places.invariant.same
