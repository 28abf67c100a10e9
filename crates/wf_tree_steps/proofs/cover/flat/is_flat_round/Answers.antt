use Rattle.std.proofs.Common.{◌≤◌, arith}
use Rattle.wf_tree_steps.specs.Cover.Turns.{is_flat_by}
use Rattle.wf_tree_steps.proofs.OfCover.Rounds.{each_passes, elsewhere, one_fails, outside}
use Rattle.wf_tree_steps.proofs.cover.flat.is_flat_round.Goals as goal

pub returns-then-there-from : goal.returns-then-there-from
returns-then-there-from c =
    let cover = c.args.round.now.cover.now in
    let tuple = c.args.tuple.now in
    let past : cover.sheets ≤ c.moved-there.result = omega (arith, c.if-there-from.true, c.from.ensures) in
    one_fails (is_flat_by cover.moves.items cover.sheets tuple c.args.first c.args.second c.args.third) cover.sheets c.sheets.sheet c.sheets-test.true
    (outside cover.moves.items cover.sheets tuple c.args.first c.args.second c.args.third c.sheets.sheet c.moved-there.result c.moved-there.ensures past)

pub returns-then-on-moved : goal.returns-then-on-moved
returns-then-on-moved c =
    let cover = c.args.round.now.cover.now in
    let tuple = c.args.tuple.now in
    one_fails (is_flat_by cover.moves.items cover.sheets tuple c.args.first c.args.second c.args.third) cover.sheets c.sheets.sheet c.sheets-test.true
    (elsewhere cover.moves.items cover.sheets tuple c.args.first c.args.second c.args.third c.sheets.sheet c.moved-there.result c.moved-there.ensures c.moved-on.result c.moved.result c.moved-on.ensures c.moved.ensures c.if-on-moved.true)

pub returns : goal.returns
returns c =
    let cover = c.args.round.now.cover.now in
    let tuple = c.args.tuple.now in
    each_passes (is_flat_by cover.moves.items cover.sheets tuple c.args.first c.args.second c.args.third) cover.sheets c.sheets.sheet c.sheets-test.false c.sheets.invariant
