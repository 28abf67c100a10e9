use Rattle.std.proofs.Common.{◌≤◌, [], ◌∷◌, length, arith}
use Rattle.wf_lane.specs.Rows.{rows_in}
use Rattle.wf_lane.proofs.WordLemmas.{length-rows_of}
use Rattle.wf_lane.proofs.FewLemmas.{early_count, early_unmet}
use Rattle.wf_lane.proofs.JoinedValues.{AreMet, firsts, fourths, joined_from, seconds, thirds}
use Rattle.wf_lane.proofs.column.Columns.revise_few.Goals as goal

pub returns : goal.returns
returns k =
    let c = k.args.self.now in
    let cut = k.requires.cut in
    let rows = rows_in c in
    let wanted = k.wanted-wanted.result in
    let live = k.live_early-live.result in
    let left = k.all_unmet_early-unmet.ensures in
    let few : length rows ≤ 64 = omega (arith, k.requires.few, length-rows_of c.first.words.items c.second.words.items c.third.words.items c.fourth.words.items cut.second_long cut.third_long cut.fourth_long) in
    let unmet_at = early_unmet wanted rows live few k.live_early-live.ensures in
    let met = k.difference.result ∷ k.difference-2.result ∷ k.difference-3.result ∷ k.difference-4.result ∷ [] in
    let are : AreMet met wanted k.all_unmet_early-unmet.result = record { first = k.difference.ensures; second = k.difference-2.ensures; third = k.difference-3.ensures; fourth = k.difference-4.ensures } in
    joined_from c cut k.args.sets wanted k.all_unmet_early-unmet.result met _ k.requires.one_hot k.wanted-wanted.ensures.wanted are
    (record { first = omega (arith, k.difference.type_inv); second = omega (arith, k.difference-2.type_inv); third = omega (arith, k.difference-3.type_inv); fourth = omega (arith, k.difference-4.type_inv) })
    (record {
      first = unmet_at (λ r. r.first) c.first.words.items _ _ (firsts c cut) left.first;
      second = unmet_at (λ r. r.second) c.second.words.items _ _ (seconds c cut) left.second;
      third = unmet_at (λ r. r.third) c.third.words.items _ _ (thirds c cut) left.third;
      fourth = unmet_at (λ r. r.fourth) c.fourth.words.items _ _ (fourths c cut) left.fourth;
    })
    (early_count wanted rows live few k.live_early-live.ensures)
