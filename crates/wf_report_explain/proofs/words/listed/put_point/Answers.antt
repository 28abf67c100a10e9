use Rattle.std.proofs.Common.{◌∷◌, [], decimal, refl, sym, ap}
use Rattle.wf_report_explain.proofs.OfWords.Pieces.{both_put, first_failed}
use Rattle.wf_report_explain.proofs.words.listed.put_point.Goals as goal

pub returns-in_err-put : goal.returns-in_err-put
returns-in_err-put g c = first_failed _ _ _ _ _ (32 ∷ []) (decimal c.args.point) c.from_residual.result c.from_residual.ensures.0 c.in_err-put.ensures refl

pub returns : goal.returns
returns g c = both_put _ _ _ _ _ _ _ (32 ∷ []) (decimal c.from.result) c.put_number.result c.in_ok-put.ensures (ap (λ n. 32 ∷ decimal n) (sym c.from.ensures)) c.put_number.ensures
