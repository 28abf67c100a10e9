use Rattle.std.proofs.Common.{◌∙◌, ap}
use Rattle.std.specs.Prelude.{bit_and, slice_index}
use Rattle.wf_lane.specs.Rows.{rows_in}
use Rattle.wf_lane.proofs.WordLemmas.{column0, column1, column2, column3}
use Rattle.wf_lane.proofs.FewLemmas.{early, live_words}
use Rattle.wf_lane.proofs.column.Columns.live_early.Goals as goal

pub returns : goal.returns
returns k =
    let columns = k.args.self.now in
    let a = columns.first.words.items in
    let b = columns.second.words.items in
    let c = columns.third.words.items in
    let d = columns.fourth.words.items in
    let s = k.args.wanted in
    let hb = k.requires.cut.second_long in
    let hc = k.requires.cut.third_long in
    let hd = k.requires.cut.fourth_long in
    ap (λ n. bit_and (bit_and (bit_and n k.early_among-2.result) k.early_among-3.result) k.early_among-4.result) k.early_among.ensures
    ∙ ap (λ n. bit_and (bit_and (bit_and (early (slice_index s 0) a) n) k.early_among-3.result) k.early_among-4.result) k.early_among-2.ensures
    ∙ ap (λ n. bit_and (bit_and (bit_and (early (slice_index s 0) a) (early (slice_index s 1) b)) n) k.early_among-4.result) k.early_among-3.ensures
    ∙ ap (bit_and (bit_and (bit_and (early (slice_index s 0) a) (early (slice_index s 1) b)) (early (slice_index s 2) c))) k.early_among-4.ensures
    ∙ live_words s a b c d (rows_in columns) (column0 a b c d hb hc hd) (column1 a b c d hb hc hd) (column2 a b c d hb hc hd) (column3 a b c d hb hc hd)
