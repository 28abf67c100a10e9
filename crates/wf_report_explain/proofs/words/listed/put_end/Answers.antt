use Rattle.std.proofs.Common.{◌++◌, ◌∷◌, [], codes, flat_map, refl, arith}
use Rattle.wf_base.proofs.OfStreams.Lemmas.{went_on, stopped, last_put}
use Rattle.wf_report_explain.specs.Words.Listing.{spaced}
use Rattle.wf_report_explain.proofs.OfWords.Pieces.{first_failed, first_put, next_in, none_in}
use Rattle.wf_report_explain.proofs.words.listed.put_end.Goals as goal

pub returns-in_err-put : goal.returns-in_err-put
returns-in_err-put g c = first_failed _ _ _ _ _ (32 ∷ 58 ∷ []) (flat_map spaced c.args.points.now ++ codes "\n") c.from_residual.result c.from_residual.ensures.0 c.in_err-put.ensures refl

pub loop-point-init : goal.loop-point-init
loop-point-init g c = first_put _ _ _ _ _ (32 ∷ 58 ∷ []) (flat_map spaced c.args.points.now ++ codes "\n") c.in_ok-put.ensures refl

pub returns-in_err-put_point : goal.returns-in_err-put_point
returns-in_err-put_point g c =
    stopped _ _ _ _ _ _ _ _ _ _ c.from_residual-in_err-put_point.result c.from_residual-in_err-put_point.ensures.0 c.loop-point.invariant c.in_err-put_point.ensures
    (next_in spaced (codes "\n") c.args.points.now c.loop-point.point-index 0 c.loop-point-test.true)

pub loop-point-preserved : goal.loop-point-preserved
loop-point-preserved g c =
    went_on _ _ _ _ _ _ _ _ _ _ c.loop-point.invariant c.in_ok-put_point.ensures
    (next_in spaced (codes "\n") c.args.points.now c.loop-point.point-index 0 c.loop-point-test.true)

pub returns : goal.returns
returns g c = last_put _ _ _ _ _ _ _ (10 ∷ []) _ c.put-2.result c.loop-point.invariant c.put-2.ensures (none_in spaced (codes "\n") c.args.points.now c.loop-point.point-index (omega (arith, c.loop-point-test.false)))
