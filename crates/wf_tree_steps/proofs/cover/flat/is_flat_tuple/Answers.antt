use Rattle.std.proofs.Common.{length, sym, ◌∙◌, arith}
use Rattle.wf_tree_steps.specs.Cover.Turns.{is_flat_from}
use Rattle.wf_tree_steps.proofs.OfCover.Rounds.{each_passes, one_fails}
use Rattle.wf_tree_steps.proofs.cover.flat.is_flat_tuple.Goals as goal

pub returns-then-not-is_flat_from : goal.returns-then-not-is_flat_from
returns-then-not-is_flat_from c =
    let cover = c.args.round.now.cover.now in
    let tuple = c.args.tuple.now in
    one_fails (is_flat_from cover.moves.items cover.sheets tuple) (length tuple) c.places.first (omega (arith, c.places-test.true, c.size-first-end.ensures.count)) (sym c.is_flat_from.ensures ∙ c.if-not-is_flat_from.true)

pub returns : goal.returns
returns c =
    let cover = c.args.round.now.cover.now in
    let tuple = c.args.tuple.now in
    each_passes (is_flat_from cover.moves.items cover.sheets tuple) (length tuple) c.places.first (omega (arith, c.places-test.false, c.size-first-end.ensures.count)) c.places.invariant
