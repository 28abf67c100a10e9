use Rattle.std.proofs.Common.{◌++◌, ◌+◌, drop, get_or, string_bytes, ap, ◌∙◌}
use Rattle.std.proofs.lemmas.List.{take_rest}
use Rattle.std.proofs.lemmas.Result.{on_ok_weaker}
use Rattle.wf_report_explain.specs.Words.Text.{first_item, item_text}
use Rattle.wf_report_explain.proofs.OfWords.ValuesInWords.{one_more_item, some_told}
use Rattle.wf_report_explain.proofs.words.values.put_values.Goals as goal

pub loop-place-preserved : goal.loop-place-preserved
loop-place-preserved c =
    let loop = c.loop-place in let item = c.first_item-item.result in
    one_more_item c.args.values.now loop.place loop.told (loop.told + c.size-told.result) item (string_bytes loop.text) (string_bytes c.put_item.new.text) _ loop.invariant c.loop-place-test.true c.if-told-values.false
    (c.first_item-item.ensures.item ∙ ap (λ ys. first_item (get_or ys 0 0) (drop 1 ys)) (take_rest c.args.values.now loop.told)) (ap (λ n. loop.told + n) c.size-told.ensures) (c.in_ok-put_item.ensures ∙ ap (λ before. string_bytes loop.text ++ (before ++ item_text item)) c.before_item.ensures)

pub returns : goal.returns
returns c =
    let loop = c.loop-place in
    on_ok_weaker _ (λ told. some_told c.args.values.now loop.place loop.told (string_bytes loop.text) (string_bytes c.put_more.new.text) _ loop.invariant c.loop-place-test.false told) c.put_more.ensures
