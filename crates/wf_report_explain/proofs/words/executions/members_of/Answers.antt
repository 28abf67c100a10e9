use Rattle.std.proofs.Common.{◌<◌, ◌++◌, ◌∷◌, [], length, take_all, sym, ◌∙◌, arith}
use Rattle.std.proofs.lemmas.List.{take_more}
use Rattle.wf_report_explain.specs.Words.Text.{named}
use Rattle.wf_report_explain.proofs.OfWords.ExecutionPlaces.{length-named}
use Rattle.wf_report_explain.proofs.words.executions.members_of.Goals as goal

pub loop-place-preserved : goal.loop-place-preserved
loop-place-preserved c =
    let s = c.args.simplex.now in let ranks = c.args.ranks in let place = c.loop-place.place in
    let inside : place < length (named ranks s) = omega (arith, c.loop-place-test.true, c.colours-place-end.ensures.count, length-named ranks s) in (
      omega (arith, c.push_if.ensures.count, c.loop-place.invariant.0),
      c.push_if.ensures.members ∙ (λ i. c.loop-place.invariant.1 i ++ c.participant.ensures i ∷ []) ∙ sym (take_more (named ranks s) place (0, 0) inside),
    )

pub returns-clause-members : goal.returns-clause-members
returns-clause-members c =
    let s = c.args.simplex.now in let ranks = c.args.ranks in
    c.loop-place.invariant.1 ∙ take_all c.loop-place.place (named ranks s) (omega (arith, c.loop-place-test.false, c.colours-place-end.ensures.count, length-named ranks s))
