use Rattle.std.proofs.Common.{◌≡◌, ◌<◌, ◌*◌, length, arith, ap, ◌∙◌}
use Rattle.std.specs.Prelude.{slice_index}
use Rattle.std.proofs.lemmas.List.{get_or_read}
use Rattle.wf_lane.specs.Rows.{is_value}
use Rattle.wf_lane.proofs.FewLemmas.{first_word}
use Rattle.wf_lane.proofs.column.Column.early_with.Goals as goal

pub returns : goal.returns
returns c =
    let column = c.args.self.now in
    let start = slice_index column.starts.items c.args.value in
    let within : c.args.value < length column.starts.items = omega (arith, c.requires.cut.starts c.requires.blocks, c.requires.small) in
    let at : c.index.result.now ≡ start = get_or_read column.starts.items c.args.value _ within c.index.ensures 0 in
    let inside : c.index.result.now < length column.sets.items = omega (arith, at, c.requires.blocks, c.requires.cut.within c.args.value c.requires.value) in
    get_or_read column.sets.items c.index.result.now _ inside c.index-2.ensures 0
    ∙ ap (slice_index column.sets.items) at
    ∙ first_word (is_value c.args.value) column.words.items column.sets.items start (8 * column.blocks) (omega (arith, c.requires.blocks)) (c.requires.cut.marked c.args.value c.requires.value)
