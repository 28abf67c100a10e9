use Rattle.std.proofs.Common.{◌≡◌, ◌+◌, ◌*◌, [], ◌∷◌, take, ap, sym, ◌∙◌, arith, refl}
use Rattle.std.specs.Prelude.{count_by, count_ones, slice_index, sum_by}
use Rattle.std.proofs.lemmas.List.{take_all, length-take}
use Rattle.std.proofs.lemmas.List.Sums.{count_by-le-length}
use Rattle.wf_lane.specs.Rows.{AreWanted, is_among, rows_in}
use Rattle.wf_lane.proofs.WordLemmas.{length-rows_of}
use Rattle.wf_lane.proofs.RowLemmas.{count_rows}
use Rattle.wf_lane.proofs.BlockLemmas.{no_rows_yet, unmet_more, count_more_rows}
use Rattle.wf_lane.proofs.JoinedValues.{AreMet, firsts, fourths, joined_from, seconds, thirds}
use Rattle.wf_lane.proofs.column.Columns.revise_blocks.Goals as goal

pub loop-block-init : goal.loop-block-init
loop-block-init k =
    let wanted = k.wanted.result ∷ k.wanted-2.result ∷ k.wanted-3.result ∷ k.wanted-4.result ∷ [] in
    record {
      first = no_rows_yet wanted (slice_index wanted 0) (λ r. r.first);
      second = no_rows_yet wanted (slice_index wanted 1) (λ r. r.second);
      third = no_rows_yet wanted (slice_index wanted 2) (λ r. r.third);
      fourth = no_rows_yet wanted (slice_index wanted 3) (λ r. r.fourth);
      counted = refl;
    }

pub overflow_add-alive : goal.overflow_add-alive
overflow_add-alive k =
    let c = k.args.self.now in
    let cut = k.requires.cut in
    let rows = rows_in c in
    let wanted = k.wanted.result ∷ k.wanted-2.result ∷ k.wanted-3.result ∷ k.wanted-4.result ∷ [] in
    let block = k.loop-block.block in
    let long = length-rows_of c.first.words.items c.second.words.items c.third.words.items c.fourth.words.items cut.second_long cut.third_long cut.fourth_long in
    omega (arith, k.loop-block.invariant.counted, k.count_rows-alive.ensures ∙ ap (sum_by count_ones) k.live_rows-live.ensures ∙ count_rows (is_among wanted) rows (8 * block) 8, count_more_rows wanted rows block, count_by-le-length (is_among wanted) (take (512 * (block + 1)) rows), length-take (512 * (block + 1)) rows, long, k.requires.few)

pub loop-block-preserved : goal.loop-block-preserved
loop-block-preserved k =
    let c = k.args.self.now in
    let cut = k.requires.cut in
    let rows = rows_in c in
    let wanted = k.wanted.result ∷ k.wanted-2.result ∷ k.wanted-3.result ∷ k.wanted-4.result ∷ [] in
    let block = k.loop-block.block in
    let live = k.live_rows-live.result in
    let lanes = k.live_rows-live.ensures in
    let inv = k.loop-block.invariant in
    let left = k.unsupported-unmet.ensures in
    record {
      first = unmet_more wanted (λ r. r.first) rows c.first.words.items _ _ (slice_index wanted 0) live block (firsts c cut) lanes inv.first left.first;
      second = unmet_more wanted (λ r. r.second) rows c.second.words.items _ _ (slice_index wanted 1) live block (seconds c cut) lanes inv.second left.second;
      third = unmet_more wanted (λ r. r.third) rows c.third.words.items _ _ (slice_index wanted 2) live block (thirds c cut) lanes inv.third left.third;
      fourth = unmet_more wanted (λ r. r.fourth) rows c.fourth.words.items _ _ (slice_index wanted 3) live block (fourths c cut) lanes inv.fourth left.fourth;
      counted =
          ap (λ n. n + k.count_rows-alive.result) inv.counted
          ∙ ap (λ n. count_by (is_among wanted) (take (512 * block) rows) + n) (k.count_rows-alive.ensures ∙ ap (sum_by count_ones) lanes ∙ count_rows (is_among wanted) rows (8 * block) 8)
          ∙ sym (count_more_rows wanted rows block);
    }

pub returns : goal.returns
returns k =
    let c = k.args.self.now in
    let cut = k.requires.cut in
    let rows = rows_in c in
    let long = length-rows_of c.first.words.items c.second.words.items c.third.words.items c.fourth.words.items cut.second_long cut.third_long cut.fourth_long in
    let whole : take (512 * k.loop-block.block) rows ≡ rows = take_all (512 * k.loop-block.block) rows (omega (arith, long, k.requires.all)) in
    let inv = rw whole at k.loop-block.invariant in
    let wanted = k.wanted.result ∷ k.wanted-2.result ∷ k.wanted-3.result ∷ k.wanted-4.result ∷ [] in
    let asked : AreWanted c wanted k.args.sets = record { first = k.wanted.ensures.wanted; second = k.wanted-2.ensures.wanted; third = k.wanted-3.ensures.wanted; fourth = k.wanted-4.ensures.wanted } in
    let met = k.difference.result ∷ k.difference-2.result ∷ k.difference-3.result ∷ k.difference-4.result ∷ [] in
    let are : AreMet met wanted k.loop-block.unmet = record { first = k.difference.ensures; second = k.difference-2.ensures; third = k.difference-3.ensures; fourth = k.difference-4.ensures } in
    joined_from c cut k.args.sets wanted k.loop-block.unmet met _ k.requires.one_hot asked are
    (record { first = omega (arith, k.difference.type_inv); second = omega (arith, k.difference-2.type_inv); third = omega (arith, k.difference-3.type_inv); fourth = omega (arith, k.difference-4.type_inv) })
    (record { first = inv.first; second = inv.second; third = inv.third; fourth = inv.fourth })
    inv.counted
