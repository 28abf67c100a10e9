use Rattle.std.proofs.Common.{◌-◌, length, drop, slice_index, arith, length-drop}
use Rattle.wf_complex.proofs.KnownLemmas.{places_below}
use Rattle.wf_complex.proofs.rounds.places_seen.Goals as goal
use Rattle.wf_complex.proofs.rounds.places_seen.Goals.{then-sees, else-sees}

pub overflow_mul-places : goal.overflow_mul-places
overflow_mul-places c =
    let w = c.args.word.now in
    omega (arith, c.loop-later.invariant, places_below (slice_index w c.args.i) (drop (length w - c.loop-later.later) w) (omega (arith, length-drop (length w - c.loop-later.later) w, c.size-size.ensures.few, c.size-size.ensures.count)))

pub overflow_add-places : goal.overflow_add-places
overflow_add-places c =
    let w = c.args.word.now in
    let few = places_below (slice_index w c.args.i) (drop (length w - c.loop-later.later) w) (omega (arith, length-drop (length w - c.loop-later.later) w, c.size-size.ensures.few, c.size-size.ensures.count)) in
    elim c.if-sees.branch [ then-sees b ↦ omega (arith, c.loop-later.invariant, few, b.bit-is) | else-sees b ↦ omega (arith, c.loop-later.invariant, few, b.bit-is) ]
