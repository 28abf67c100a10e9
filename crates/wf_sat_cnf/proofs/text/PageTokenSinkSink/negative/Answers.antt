use Rattle.std.proofs.Common.{◌++◌, ◌∷◌, [], decimal, refl, append-nil}
use Rattle.wf_base.proofs.OfStreams.Lemmas.{begun, went_on, stopped, last_put}
use Rattle.wf_sat_cnf.proofs.text.PageTokenSinkSink.negative.Goals as goal

pub returns-in_err-put : goal.returns-in_err-put
returns-in_err-put g c =
    let rest = (decimal c.args.variable ++ 32 ∷ []) ++ [] in
    stopped _ _ _ _ _ _ (45 ∷ rest) (45 ∷ []) (45 ∷ rest) rest c.from_residual.result c.from_residual.ensures.0 (begun _ _ (45 ∷ rest)) c.in_err-put.ensures refl

pub returns : goal.returns
returns g c =
    let rest = (decimal c.args.variable ++ 32 ∷ []) ++ [] in
    last_put _ _ _ _ _ _ (45 ∷ rest) (decimal c.args.variable ++ 32 ∷ []) rest c.put_number.result
    (went_on _ _ _ _ _ _ (45 ∷ rest) (45 ∷ []) (45 ∷ rest) rest (begun _ _ (45 ∷ rest)) c.in_ok-put.ensures refl) c.put_number.ensures (append-nil (decimal c.args.variable ++ 32 ∷ []))
