use Rattle.std.proofs.Common.{◌∙◌, ap}
use Rattle.std.specs.Prelude.{bit_and, slice_index}
use Rattle.std.specs.Simd.Lanes.{zip2}
use Rattle.wf_lane.specs.Rows.{rows_in}
use Rattle.wf_lane.proofs.WordLemmas.{column0, column1, column2, column3}
use Rattle.wf_lane.proofs.BlockLemmas.{among, live_lanes}
use Rattle.wf_lane.proofs.column.Columns.live_rows.Goals as goal

pub returns : goal.returns
returns k =
    let columns = k.args.self.now in
    let a = columns.first.words.items in
    let b = columns.second.words.items in
    let c = columns.third.words.items in
    let d = columns.fourth.words.items in
    let s = k.args.wanted in
    let hb = k.requires.cut.second_long in
    let hc = k.requires.cut.third_long in
    let hd = k.requires.cut.fourth_long in
    ap (λ l. zip2 bit_and (zip2 bit_and (zip2 bit_and l k.rows_among-2.result) k.rows_among-3.result) k.rows_among-4.result) k.rows_among.ensures
    ∙ ap (λ l. zip2 bit_and (zip2 bit_and (zip2 bit_and (among (slice_index s 0) a k.args.start) l) k.rows_among-3.result) k.rows_among-4.result) k.rows_among-2.ensures
    ∙ ap (λ l. zip2 bit_and (zip2 bit_and (zip2 bit_and (among (slice_index s 0) a k.args.start) (among (slice_index s 1) b k.args.start)) l) k.rows_among-4.result) k.rows_among-3.ensures
    ∙ ap (λ l. zip2 bit_and (zip2 bit_and (zip2 bit_and (among (slice_index s 0) a k.args.start) (among (slice_index s 1) b k.args.start)) (among (slice_index s 2) c k.args.start)) l) k.rows_among-4.ensures
    ∙ live_lanes s a b c d (rows_in columns) k.args.start (column0 a b c d hb hc hd) (column1 a b c d hb hc hd) (column2 a b c d hb hc hd) (column3 a b c d hb hc hd)
