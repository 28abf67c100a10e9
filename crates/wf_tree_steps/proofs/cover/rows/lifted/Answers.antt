use Rattle.std.proofs.Common.{◌<◌, ◌≤◌, ◌+◌, ◌*◌, ap, ◌∙◌, arith}
use Rattle.std.proofs.Math.ListN.{length-set, set}
use Rattle.std.proofs.Math.Nat.{mul-le-mul_left}
use Rattle.std.proofs.lemmas.List.Elements.{All-from_recursion, All-get_or}
use Rattle.wf_tree_model.specs.Covers.{moved}
use Rattle.wf_tree_model.specs.Tuples.{value_at}
use Rattle.wf_tree_steps.specs.Cover.LiftSeen.{lift_seen}
use Rattle.wf_tree_steps.proofs.OfCover.LiftSteps.{name_within, place_lifted, sheet_there}
use Rattle.wf_tree_steps.proofs.cover.rows.lifted.Goals as goal

pub overflow_cast-there : goal.overflow_cast-there
overflow_cast-there c =
    let s = lift_seen c.args.lift.now in
    let inside = c.places-test.true in
    let size = c.size-place-end.ensures.count in
    let long = c.requires.long in
    let there = sheet_there s c.args.row.now s.corner c.places.place c.args.sheet c.requires.flat c.requires.lift.inside (omega (arith, inside, size, long)) c.requires.sheet in
    let is = c.moved-there.ensures in
    let row = c.args.row.now in
    let small : value_at row c.places.place < c.args.lift.now.new = All-get_or (λ x. x < c.args.lift.now.new) row c.places.place 0 (omega (arith, inside, size)) (All-from_recursion (λ x. x < c.args.lift.now.new) row c.requires.small) in
    let some : 1 ≤ c.args.lift.now.new = omega (arith, small) in
    let sheets = mul-le-mul_left s.sheets some in
    let names = c.requires.lift.names in
    let fits : c.moved-there.result < 4294967296 = omega (arith, there, is, sheets, names) in
    omega (arith, fits)

pub name_on-requires : goal.name_on-requires
name_on-requires c =
    let s = lift_seen c.args.lift.now in
    let row = c.args.row.now in
    let inside = c.places-test.true in
    let size = c.size-place-end.ensures.count in
    let long = c.requires.long in
    let there = sheet_there s row s.corner c.places.place c.args.sheet c.requires.flat c.requires.lift.inside (omega (arith, inside, size, long)) c.requires.sheet in
    let small : value_at row c.places.place < c.args.lift.now.new = All-get_or (λ x. x < c.args.lift.now.new) row c.places.place 0 (omega (arith, inside, size)) (All-from_recursion (λ x. x < c.args.lift.now.new) row c.requires.small) in
    let within = name_within (value_at row c.places.place) (moved s row s.corner c.places.place c.args.sheet) s.sheets c.args.lift.now.new small there c.requires.lift.names in
    let same = ap (λ m. m * c.args.lift.now.new) c.moved-there.ensures in
    let value = c.value.ensures in
    omega (arith, within, same, value)

pub places-preserved : goal.places-preserved
places-preserved c =
    let s = lift_seen c.args.lift.now in
    let row = c.args.row.now in
    let place = c.places.place in
    let inside = c.places-test.true in
    let few = c.size-place-end.ensures.few in
    let room = c.places.invariant.room in
    record {
      room = length-set c.places.values c.from.result c.name_on.result ∙ room;
      made = place_lifted (λ p. s.name (value_at row p) (moved s row s.corner p c.args.sheet)) c.places.values (set c.places.values c.from.result c.name_on.result) place c.name_on.result (omega (arith, inside, few, room))
          (ap (λ n. set c.places.values n c.name_on.result) c.from.ensures)
          (c.name_on.ensures ∙ ap (λ v. v + c.moved-there.result * c.args.lift.now.new) c.value.ensures ∙ ap (λ m. value_at row place + m * c.args.lift.now.new) c.moved-there.ensures) c.places.invariant.made;
    }
