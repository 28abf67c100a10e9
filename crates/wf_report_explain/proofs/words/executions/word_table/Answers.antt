use Rattle.std.proofs.Common.{◌∙◌, ap, map, sym, vec_items}
use Rattle.std.proofs.lemmas.List.{map-append}
use Rattle.wf_report_explain.proofs.OfWords.ExecutionPlaces.{no_size, one_more_size}
use Rattle.wf_report_explain.proofs.words.executions.word_table.Goals as goal

pub loop-others-init : goal.loop-others-init
loop-others-init c = ap (map vec_items) c.new-table.ensures.items ∙ sym (no_size c.args.first_block)

pub loop-others-preserved : goal.loop-others-preserved
loop-others-preserved c =
    ap (map vec_items) c.in_ok-push.ensures.items
    ∙ map-append vec_items c.loop-others.table.items _
    ∙ one_more_size c.args.first_block c.loop-others.others _ _ c.loop-others.invariant c.in_ok-words_of.ensures
