use Rattle.std.proofs.Common.{◌<◌, length, get_or, sym, ap, ◌∙◌, arith}
use Rattle.std.proofs.lemmas.List.{length-map}
use Rattle.wf_model.specs.Simplex.{Vertex, values_of}
use Rattle.wf_simplex.specs.Entries.{value_at}
use Rattle.wf_task.proofs.Lemmas.{inner, value_there}
use Rattle.wf_task_presets.proofs.FamilyLoops.{value_more}
use Rattle.wf_task_presets.proofs.family.values_of.Goals as goal

pub unreachable-requires : goal.unreachable-requires
unreachable-requires c =
    let s = c.args.simplex.now in
    let there = value_there s c.loop-place.place c.colours-place-end.ensures.simplex (omega (arith, c.colours-place-end.ensures.count, c.loop-place-test.true)) in
    c.in_default.not-Some (get_or (values_of s) c.loop-place.place 0) (c.value.ensures ∙ ap (value_at s) c.colour-process.ensures ∙ there)

pub loop-place-preserved : goal.loop-place-preserved
loop-place-preserved c =
    let s = c.args.simplex.now in
    let inside : c.loop-place.place < length s = omega (arith, c.colours-place-end.ensures.count, c.loop-place-test.true) in
    let there = value_there s c.loop-place.place c.colours-place-end.ensures.simplex inside in
    let value = inner (sym c.in-Some.is ∙ c.value.ensures ∙ ap (value_at s) c.colour-process.ensures ∙ there) in
    value_more (values_of s) c.loop-place.values.keys c.insert.new.self.keys c.loop-place.place c.in-Some.value (omega (arith, inside, length-map s (λ (v : Vertex). v.1))) value c.loop-place.invariant c.in_ok-insert.ensures.keys
