use Rattle.std.proofs.Common.{◌<◌, ◌≤◌, length, ◌-◌, sym, ap, ◌∙◌, arith}
use Rattle.std.proofs.lemmas.List.Elements.{All-from_recursion}
use Rattle.wf_tree_steps.specs.Balance.Keys.{digits_code}
use Rattle.wf_tree_steps.proofs.OfBalance.Digits.{but_skipped, room, byte_digits, last_room}
use Rattle.wf_tree_steps.proofs.balance.key.values_code.Goals as goal

pub overflow_mul-code : goal.overflow_mul-code
overflow_mul-code c =
    let xs = c.args.values.now in
    let few : length xs ≤ 4 = omega (arith, c.requires) in
    let small = room xs c.places.place c.args.skipped c.places.code c.places-test.true (byte_digits c.args.values.now c.type_inv.values) few c.places.invariant.same in
    omega (arith, small)

pub overflow_add-code-then-place-skipped : goal.overflow_add-code-then-place-skipped
overflow_add-code-then-place-skipped c =
    let xs = c.args.values.now in
    let few : length xs ≤ 4 = omega (arith, c.requires) in
    let small = room xs c.places.place c.args.skipped c.places.code c.places-test.true (byte_digits c.args.values.now c.type_inv.values) few c.places.invariant.same in
    omega (arith, small, c.from.ensures)

pub places-preserved : goal.places-preserved
places-preserved c =
    let xs = c.args.values.now in
    let some = c.places-test.true in
    let inside = c.places.invariant.inside in
    let here = c.if-place-skipped.false in
    record {
      same = c.places.invariant.same ∙ sym (ap digits_code (but_skipped xs c.places.place (c.places.place - 1) c.args.skipped (omega (arith, some)) (omega (arith, some, inside)) here));
      inside = omega (arith, inside);
    }

pub returns-clause-small : goal.returns-clause-small
returns-clause-small c =
    let xs = c.args.values.now in
    let few : length xs ≤ 4 = omega (arith, c.requires) in
    last_room xs c.places.place c.args.skipped c.places.code (byte_digits c.args.values.now c.type_inv.values) few c.places.invariant.same

pub returns-clause-digits : goal.returns-clause-digits
returns-clause-digits c = All-from_recursion (λ x. x < 2047) c.args.values.now (byte_digits c.args.values.now c.type_inv.values)
