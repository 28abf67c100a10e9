use Rattle.std.proofs.Common.{◌++◌, ◌∷◌, [], decimal, sym, ap}
use Rattle.wf_report_explain.proofs.OfWords.Pieces.{both_put}
use Rattle.wf_report_explain.proofs.words.listed.put_number.Goals as goal

pub returns : goal.returns
returns g c = both_put _ _ _ _ _ _ _ (decimal c.from.result) (32 ∷ []) c.put.result c.in_ok-put_number.ensures (ap (λ n. decimal n ++ 32 ∷ []) (sym c.from.ensures)) c.put.ensures
