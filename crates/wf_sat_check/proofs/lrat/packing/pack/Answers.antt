use Rattle.std.proofs.Common.{◌≡◌, ◌+◌, ◌-◌, ◌<◌, ◌≤◌, ◌∙◌, suc, arith, length, get_or, vec_len}
use Rattle.std.proofs.lemmas.List.{get_or_default}
use Rattle.wf_sat_check.proofs.OfLrat.PackLemmas.{front_packed, front_slots, here_behind, here_within, none_laid, none_packed, step_laid, step_packed, step_slots}
use Rattle.wf_sat_check.proofs.lrat.packing.pack.Goals as goal
use Rattle.wf_sat_check.proofs.lrat.packing.pack.Goals.{then-place-gt0, else-place-gt0}

pub index-requires : goal.index-requires
index-requires c =
    let within = here_within c.places.arena.items c.places.places c.places.number c.places.end (omega arith) c.if-place-gt0.true c.places.invariant.laid in
    omega (arith, within, c.places.arena.ok.0)

pub copy_within-requires-clause-in_bounds : goal.copy_within-requires-clause-in_bounds
copy_within-requires-clause-in_bounds c =
    let arena = c.places.arena.items in
    let place = get_or c.places.places c.places.number 0 in
    let within = here_within arena c.places.places c.places.number c.places.end (omega arith) c.if-place-gt0.true c.places.invariant.laid in
    let inside : place - 1 < length arena = omega (arith, within, c.if-place-gt0.true) in
    let size : c.index.result.now ≡ get_or arena (place - 1) 0 = c.index.ensures ∙ get_or_default arena (place - 1) c.index.result.now 0 inside in
    omega (arith, within, size, c.places.arena.ok.0)

pub copy_within-requires-clause-dest_in_bounds : goal.copy_within-requires-clause-dest_in_bounds
copy_within-requires-clause-dest_in_bounds c =
    let arena = c.places.arena.items in
    let place = get_or c.places.places c.places.number 0 in
    let within = here_within arena c.places.places c.places.number c.places.end (omega arith) c.if-place-gt0.true c.places.invariant.laid in
    let behind = here_behind arena c.places.places c.places.number c.places.end (omega arith) c.if-place-gt0.true c.places.invariant.laid in
    let inside : place - 1 < length arena = omega (arith, within, c.if-place-gt0.true) in
    let size : c.index.result.now ≡ get_or arena (place - 1) 0 = c.index.ensures ∙ get_or_default arena (place - 1) c.index.result.now 0 inside in
    let room : c.places.end + ((place + c.index.result.now) - (place - 1)) ≤ vec_len c.places.arena = omega (arith, within, behind, size, c.places.arena.ok.0) in
    room

pub places-preserved : goal.places-preserved
places-preserved c = elim c.if-place-gt0.branch [
  | then-place-gt0 w ↦
      let arena = c.places.arena.items in
      let places = c.places.places in
      let n = c.places.number in
      let end = c.places.end in
      let new = w.copy_within.new.self.items in
      let place = get_or places n 0 in
      let less : n < length places = omega arith in
      let within = here_within arena places n end less w.if-place-gt0.true c.places.invariant.laid in
      let inside : place - 1 < length arena = omega (arith, within, w.if-place-gt0.true) in
      let size : w.index.result.now ≡ get_or arena (place - 1) 0 = w.index.ensures ∙ get_or_default arena (place - 1) w.index.result.now 0 inside in
      let long : length new ≡ length arena = omega (arith, w.copy_within.ensures.len, w.copy_within.new.self.ok.0, c.places.arena.ok.0) in
      let words = (place + w.index.result.now) - (place - 1) in
      let count : words ≡ suc (get_or arena (place - 1) 0) = omega (arith, size, w.if-place-gt0.true) in
      let to = end + ((place + w.index.result.now + 1) - place) in
      let past : to ≡ end + suc (get_or arena (place - 1) 0) = omega (arith, size) in
      rw (w.arena-is, w.end-is, w.places-is)
      (record {
        packed = step_packed arena new places n end to words less w.if-place-gt0.true c.places.invariant.packed c.places.invariant.laid long count past
            w.copy_within.ensures.by_index.0 w.copy_within.ensures.by_index.1 w.copy_within.ensures.by_index.2;
        laid = step_laid arena new places n end to words less w.if-place-gt0.true c.places.invariant.packed c.places.invariant.laid long count past
            w.copy_within.ensures.by_index.0 w.copy_within.ensures.by_index.1 w.copy_within.ensures.by_index.2;
        same = step_slots arena new places n end to words less w.if-place-gt0.true c.places.invariant.packed c.places.invariant.laid long count past
            w.copy_within.ensures.by_index.0 w.copy_within.ensures.by_index.1 w.copy_within.ensures.by_index.2
            ∙ c.places.invariant.same;
      })
  | else-place-gt0 w ↦
      let less : c.places.number < length c.places.places = omega arith in
      let none : get_or c.places.places c.places.number 0 ≡ 0 = omega (arith, w.if-place-gt0.false) in
      rw (w.arena-is, w.end-is, w.places-is)
      (record {
        packed = none_packed c.places.arena.items c.places.places c.places.number c.places.end less none c.places.invariant.packed;
        laid = none_laid c.places.arena.items c.places.places c.places.number c.places.end less none c.places.invariant.laid;
        same = c.places.invariant.same;
      })
]

pub returns-clause-packed : goal.returns-clause-packed
returns-clause-packed c =
    rw c.truncate.ensures.items
    (front_packed c.places.arena.items c.places.places c.places.number c.places.end (omega arith) c.places.invariant.packed c.places.invariant.laid)

pub returns-clause-same : goal.returns-clause-same
returns-clause-same c =
    rw c.truncate.ensures.items
    (front_slots c.places.arena.items c.places.places c.places.number c.places.end (omega arith) c.places.invariant.packed c.places.invariant.laid
    ∙ c.places.invariant.same)
