use Rattle.std.proofs.Common.{◌≡◌, ◌+◌, ◌*◌, ◌<◌, length, take, ap, ◌∙◌, arith}
use Rattle.std.specs.Prelude.{slice_index}
use Rattle.std.specs.Simd.Lanes.{chunk}
use Rattle.std.proofs.lemmas.List.{take_rest, get_or_read}
use Rattle.wf_lane.specs.Rows.{is_value}
use Rattle.wf_lane.proofs.RowLemmas.{rows_from}
use Rattle.wf_lane.proofs.column.Column.rows_with.Goals as goal

pub returns : goal.returns
returns c =
    let column = c.args.self.now in
    let sets = c.deref.result.now in
    let s = c.index.result.now in
    let within : c.args.value < length column.starts.items = omega (arith, c.requires.cut.starts (omega (arith, c.requires.block)), c.requires.small) in
    let at : s ≡ slice_index column.starts.items c.args.value = get_or_read column.starts.items c.args.value _ within c.index.ensures 0 in
    ap (take 8) (take_rest sets (s + c.args.start))
    ∙ ap (chunk (s + c.args.start) 8) c.deref.ensures.value
    ∙ ap (λ k. chunk (k + c.args.start) 8 column.sets.items) at
    ∙ rows_from (is_value c.args.value) column.words.items column.sets.items (slice_index column.starts.items c.args.value) (8 * column.blocks) c.args.start c.requires.block (c.requires.cut.marked c.args.value c.requires.value)
