use Rattle.std.proofs.Common.{length, sym, ◌∙◌, arith}
use Rattle.wf_tree_steps.specs.Cover.Turns.{is_flat_between}
use Rattle.wf_tree_steps.proofs.OfCover.Rounds.{each_passes, one_fails}
use Rattle.wf_tree_steps.proofs.cover.flat.is_flat_from.Goals as goal

pub returns-then-not-is_flat_between : goal.returns-then-not-is_flat_between
returns-then-not-is_flat_between c =
    let cover = c.args.round.now.cover.now in
    let tuple = c.args.tuple.now in
    one_fails (is_flat_between cover.moves.items cover.sheets tuple c.args.first) (length tuple) c.places.second (omega (arith, c.places-test.true, c.size-second-end.ensures.count)) (sym c.is_flat_between.ensures ∙ c.if-not-is_flat_between.true)

pub returns : goal.returns
returns c =
    let cover = c.args.round.now.cover.now in
    let tuple = c.args.tuple.now in
    each_passes (is_flat_between cover.moves.items cover.sheets tuple c.args.first) (length tuple) c.places.second (omega (arith, c.places-test.false, c.size-second-end.ensures.count)) c.places.invariant
