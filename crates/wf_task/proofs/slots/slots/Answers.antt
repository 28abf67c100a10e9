use Rattle.std.proofs.Common.{Contains, sym, ap, ◌∙◌, subst, arith, refl}
use Rattle.std.proofs.lemmas.Option.{slice_get_within}
use Rattle.std.specs.Vec.{vec_items}
use Rattle.wf_model.specs.Task.{IsSimplexWithin}
use Rattle.wf_task.proofs.EntrySlots.{entry_within, found_step, stray_step}
use Rattle.wf_task.proofs.slots.slots.Goals as goal
use Rattle.wf_task.proofs.slots.slots.Goals.{in-Some, in-None}

pub of_pairs-requires : goal.of_pairs-requires
of_pairs-requires c =
    subst (IsSimplexWithin 4 255) (sym c.deref.ensures) (entry_within c.args.delta.now c.loop-place.place c.index-delta-place.result c.loop-place-test.true c.index-delta-place.is c.requires)

pub index-requires-in-Some : goal.index-requires-in-Some
index-requires-in-Some c =
    let within = slice_get_within c.args.inputs.now c.in-Some.home c.of_pairs.result c.in-Some.ensures.place in
    omega (arith, within, c.loop-place.invariant.long, c.loop-place.slots.ok.0)

pub index_mut-requires : goal.index_mut-requires
index_mut-requires c =
    let within = slice_get_within c.args.inputs.now c.in-Some.home c.of_pairs.result c.in-Some.ensures.place in
    omega (arith, within, c.loop-place.invariant.long, c.loop-place.slots.ok.0)

pub loop-place-preserved : goal.loop-place-preserved
loop-place-preserved c = elim c.match-index.branch [
  | in-Some w ↦ found_step c.loop-place.slots.items c.match-index.slots.items c.args.delta.now c.loop-place.place c.index-delta-place.result c.args.inputs.now w.in-Some.home c.of_pairs.result
      w.index-in-Some.result.now w.with.result c.simplices.ensures.complex.ascending c.loop-place-test.true c.index-delta-place.is c.loop-place.invariant
      w.in-Some.ensures.place (c.of_pairs.ensures ∙ c.deref.ensures) w.index-in-Some.ensures w.with.ensures (ap vec_items w.slots-is)
  | in-None w ↦ stray_step c.loop-place.slots.items c.match-index.slots.items c.args.delta.now c.loop-place.place c.index-delta-place.result c.args.inputs.now
      c.loop-place-test.true c.index-delta-place.is c.loop-place.invariant
      (λ here. w.in-None.ensures.absent refl (subst (Contains c.args.inputs.now) (sym (c.of_pairs.ensures ∙ c.deref.ensures)) here)) (ap vec_items w.slots-is)
]
