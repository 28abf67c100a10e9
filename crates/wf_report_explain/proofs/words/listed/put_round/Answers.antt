use Rattle.std.proofs.Common.{◌++◌, sym, ap, ◌∙◌, false}
use Rattle.wf_report_explain.specs.Words.Text.{participant_text, word_text}
use Rattle.wf_report_explain.proofs.OfWords.Pieces.{both_put, first_failed}
use Rattle.wf_report_explain.proofs.words.listed.put_round.Goals as goal

pub returns-in_err-put : goal.returns-in_err-put
returns-in_err-put g c =
    let rest = word_text (participant_text false false) c.args.all.now c.args.word.now in
    first_failed _ _ _ _ _ c.as_bytes.result.now rest c.from_residual.result c.from_residual.ensures.0 c.in_err-put.ensures (ap (λ bs. bs ++ rest) (sym (c.as_bytes.ensures.value ∙ c.before_round.ensures)))

pub returns : goal.returns
returns g c =
    let rest = word_text (participant_text false false) c.args.all.now c.args.word.now in
    both_put _ _ _ _ _ _ _ c.as_bytes.result.now rest c.put_word.result c.in_ok-put.ensures (ap (λ bs. bs ++ rest) (sym (c.as_bytes.ensures.value ∙ c.before_round.ensures))) c.put_word.ensures
