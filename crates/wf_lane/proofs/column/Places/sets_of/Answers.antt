use Rattle.std.proofs.Common.{◌≡◌, ℕ, ◌+◌, ◌*◌, ◌<◌, ◌≤◌, ◌/◌, ◌%◌, ◌^◌, List, get_or, length, sym, ap, ◌∙◌, arith, w64}
use Rattle.std.specs.Prelude.{bit_or, slice_index}
use Rattle.std.specs.Int.{trailing_zeros}
use Rattle.std.specs.List.{All}
use Rattle.std.proofs.lemmas.List.{get_or_read, length-set}
use Rattle.wf_lane.specs.Words.{ors}
use Rattle.wf_lane.specs.Table.{IsOneHot, value_of}
use Rattle.wf_lane.specs.Rows.{ArePlaces}
use Rattle.wf_lane.specs.declared.column.Places.{Places}
use Rattle.wf_lane.proofs.ColumnLemmas.{in_sets, occurs_at, one_marked, one_shl, small_at, value_is}
use Rattle.wf_lane.proofs.column.Places.sets_of.Goals as goal

start_is : (p : Places) (words : List ℕ) (row start : ℕ) → ArePlaces (ors words) p → All IsOneHot words → row < length words → start ≡ get_or p.starts.items (trailing_zeros w64 (get_or words row 0)) start → start ≡ slice_index p.starts.items (value_of (get_or words row 0))
start_is p words row start apart hot lt read =
    let w = get_or words row 0 in
    let within : trailing_zeros w64 w < length p.starts.items = omega (arith, apart.count, small_at words row hot lt, value_is w) in
    get_or_read p.starts.items (trailing_zeros w64 w) start within read 0 ∙ ap (slice_index p.starts.items) (sym (value_is w))

inside : (p : Places) (words : List ℕ) (row start : ℕ) → ArePlaces (ors words) p → All IsOneHot words → length words ≤ 64 * p.words → row < length words → start ≡ get_or p.starts.items (trailing_zeros w64 (get_or words row 0)) start → start + row / 64 < p.end
inside p words row start apart hot room lt read =
    let w = get_or words row 0 in
    omega (arith, start_is p words row start apart hot lt read, in_sets (ors words) p apart (value_of w) (row / 64) (occurs_at words row hot lt) (omega (arith, room, lt)))

pub overflow_add-start : goal.overflow_add-start
overflow_add-start c =
    let here = inside c.args.self.now c.args.words.now c.loop-row.row c.index-start.result.now c.requires.apart c.requires.one_hot c.requires.room c.loop-row-test.true c.index-start.ensures in
    omega (arith, here, c.loop-row.invariant.long, c.loop-row.sets.ok.0, c.loop-row.sets.small)

pub index_mut-requires : goal.index_mut-requires
index_mut-requires c =
    let here = inside c.args.self.now c.args.words.now c.loop-row.row c.index-start.result.now c.requires.apart c.requires.one_hot c.requires.room c.loop-row-test.true c.index-start.ensures in
    omega (arith, here, c.loop-row.invariant.long, c.loop-row.sets.ok.0)

pub loop-row-preserved : goal.loop-row-preserved
loop-row-preserved c =
    let p = c.args.self.now in
    let words = c.args.words.now in
    let row = c.loop-row.row in
    let sets = c.loop-row.sets.items in
    let at = c.index-start.result.now + row / 64 in
    let lt = c.loop-row-test.true in
    let start = start_is p words row c.index-start.result.now c.requires.apart c.requires.one_hot lt c.index-start.ensures in
    let in_sets : at < length sets = omega (arith, c.loop-row.invariant.long, inside p words row c.index-start.result.now c.requires.apart c.requires.one_hot c.requires.room lt c.index-start.ensures) in
    let low : row % 64 < 64 = omega arith in
    let bit = 1 * 2 ^ (row % 64) % 18446744073709551616 in
    record {
      long = length-set sets at (bit_or c.index_mut.result.now bit) ∙ c.loop-row.invariant.long;
      marked = one_marked (ors words) p c.requires.apart words sets row at (bit_or c.index_mut.result.now bit) c.loop-row.invariant.long lt (omega (arith, lt, c.requires.room)) (occurs_at words row c.requires.one_hot lt) c.loop-row.invariant.marked
          (ap (λ s. s + row / 64) start)
          (ap (λ x. bit_or x bit) (get_or_read sets at _ in_sets c.index_mut.ensures.value 0) ∙ ap (bit_or (slice_index sets at)) (one_shl (row % 64) low));
    }
