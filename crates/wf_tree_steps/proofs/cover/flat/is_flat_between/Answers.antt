use Rattle.std.proofs.Common.{length, sym, ◌∙◌, arith}
use Rattle.wf_tree_steps.specs.Cover.Turns.{is_flat_round}
use Rattle.wf_tree_steps.proofs.OfCover.Rounds.{each_passes, one_fails}
use Rattle.wf_tree_steps.proofs.cover.flat.is_flat_between.Goals as goal

pub returns-then-not-is_flat_round : goal.returns-then-not-is_flat_round
returns-then-not-is_flat_round c =
    let cover = c.args.round.now.cover.now in
    let tuple = c.args.tuple.now in
    one_fails (is_flat_round cover.moves.items cover.sheets tuple c.args.first c.args.second) (length tuple) c.places.third (omega (arith, c.places-test.true, c.size-third-end.ensures.count)) (sym c.is_flat_round.ensures ∙ c.if-not-is_flat_round.true)

pub returns : goal.returns
returns c =
    let cover = c.args.round.now.cover.now in
    let tuple = c.args.tuple.now in
    each_passes (is_flat_round cover.moves.items cover.sheets tuple c.args.first c.args.second) (length tuple) c.places.third (omega (arith, c.places-test.false, c.size-third-end.ensures.count)) c.places.invariant
