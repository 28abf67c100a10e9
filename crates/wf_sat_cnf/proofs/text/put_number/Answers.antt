use Rattle.std.proofs.Common.{◌++◌, ◌∷◌, [], decimal, refl, ap, sym}
use Rattle.wf_base.proofs.OfStreams.Lemmas.{begun, went_on, last_put}
use Rattle.wf_sat_cnf.proofs.text.put_number.Goals as goal

pub returns : goal.returns
returns g c =
    let text = decimal c.args.number ++ 32 ∷ [] in
    last_put _ _ _ _ _ _ text (32 ∷ []) (32 ∷ []) c.put.result
    (went_on _ _ _ _ _ _ text (decimal c.from.result) text (32 ∷ []) (begun _ _ text) c.in_ok-put_number.ensures (ap (λ n. decimal n ++ 32 ∷ []) (sym c.from.ensures))) c.put.ensures refl
