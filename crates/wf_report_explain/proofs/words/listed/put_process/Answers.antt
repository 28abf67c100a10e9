use Rattle.std.proofs.Common.{◌++◌, decimal, sym, ◌∙◌}
use Rattle.wf_report_explain.proofs.OfWords.Pieces.{both_put}
use Rattle.wf_report_explain.proofs.words.listed.put_process.Goals as goal

pub returns : goal.returns
returns g c =
    both_put _ _ _ _ _ _ _ c.as_bytes.result.now (decimal c.from.result) c.put_number.result c.in_ok-put.ensures
    (λ i. sym (c.as_bytes.ensures.value ∙ c.before_process.ensures) i ++ decimal (sym c.from.ensures i)) c.put_number.ensures
