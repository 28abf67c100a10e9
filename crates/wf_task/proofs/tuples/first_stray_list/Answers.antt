use Rattle.std.proofs.Common.{Contains, length, zip, not, refl, ap, sym, ◌∙◌, subst}
use Rattle.std.proofs.lemmas.Option.{get_or_from_slice_get, slice_get_within}
use Rattle.wf_model.specs.Simplex.{processes_of}
use Rattle.wf_task.specs.Judge.{is_among}
use Rattle.wf_task.specs.Tuples.{IsTupleOf}
use Rattle.wf_task.proofs.EntrySlots.{among-absent, among-there}
use Rattle.wf_task.proofs.TupleLemmas.{seen_here, first_here, first_later}
use Rattle.wf_task.proofs.tuples.first_stray_list.Goals as goal

pub on_processes-requires : goal.on_processes-requires
on_processes-requires c =
    subst (IsTupleOf (length c.args.simplex.now)) (sym c.deref.ensures)
    (seen_here (IsTupleOf (length c.args.simplex.now)) (λ t. t.items) c.args.lists.now c.loop-place.place c.index-lists-place.result c.loop-place-test.true c.index-lists-place.is c.requires)

pub returns-in-None : goal.returns-in-None
returns-in-None c =
    let outputs = c.args.outputs.now in
    let s = c.args.simplex.now in
    let made = c.on_processes.ensures ∙ ap (zip (processes_of s)) c.deref.ensures in
    let absent = among-absent outputs (zip (processes_of s) c.index-lists-place.result.items)
    (λ here. c.in-None.ensures.absent refl (subst (Contains outputs) (sym made) here)) in
    first_here (λ tuple. not (is_among outputs (zip (processes_of s) tuple))) (λ t. t.items) c.args.lists.now c.loop-place.place c.index-lists-place.result c.loop-place-test.true c.index-lists-place.is (ap not absent)
    ∙ c.loop-place.invariant

pub loop-place-preserved : goal.loop-place-preserved
loop-place-preserved c =
    let outputs = c.args.outputs.now in
    let s = c.args.simplex.now in
    let image = c.on_processes.result in
    let found = c.in-Some.found in
    let at = c.in-Some.ensures.place in
    let made = c.on_processes.ensures ∙ ap (zip (processes_of s)) c.deref.ensures in
    let here : Contains outputs image = (found, slice_get_within outputs found image at, get_or_from_slice_get outputs found image image at) in
    let there = subst (Contains outputs) made here in
    first_later (λ tuple. not (is_among outputs (zip (processes_of s) tuple))) (λ t. t.items) c.args.lists.now c.loop-place.place c.index-lists-place.result c.loop-place-test.true c.index-lists-place.is
    (ap not (among-there outputs (zip (processes_of s) c.index-lists-place.result.items) there))
    ∙ c.loop-place.invariant
