use Rattle.std.proofs.Common.{◌<◌, length, get_or, sym, ap, ◌∙◌, arith}
use Rattle.wf_model.specs.Simplex.{values_of}
use Rattle.wf_simplex.specs.Entries.{value_at}
use Rattle.wf_task.proofs.EntrySlots.{inner}
use Rattle.wf_task.proofs.RowLemmas.{value_there, vertex_more}
use Rattle.wf_task.proofs.rows.with_values.Goals as goal

pub unreachable-requires : goal.unreachable-requires
unreachable-requires c =
    let s = c.args.simplex.now in
    let there = value_there s c.loop-place.place c.colours-place-end.ensures.simplex (omega (arith, c.colours-place-end.ensures.count, c.loop-place-test.true)) in
    c.in_default.not-Some (get_or (values_of s) c.loop-place.place 0) (c.value.ensures ∙ ap (value_at s) c.colour-process.ensures ∙ there)

pub loop-place-preserved : goal.loop-place-preserved
loop-place-preserved c =
    let s = c.args.simplex.now in
    let inside : c.loop-place.place < length s = omega (arith, c.colours-place-end.ensures.count, c.loop-place-test.true) in
    let there = value_there s c.loop-place.place c.colours-place-end.ensures.simplex inside in
    vertex_more c.args.set c.loop-place.more c.with-next.result s c.loop-place.place c.in-Some.value inside (inner (sym c.in-Some.is ∙ c.value.ensures ∙ ap (value_at s) c.colour-process.ensures ∙ there)) c.loop-place.invariant c.with-next.ensures
