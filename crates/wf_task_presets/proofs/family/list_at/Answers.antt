use Rattle.std.proofs.Common.{length, sym, ◌∙◌, arith, length-set}
use Rattle.wf_task.proofs.Lemmas.{get_or-lists_of}
use Rattle.wf_task_presets.proofs.FamilyLoops.{step_some, step_place, step_below, step_made, list_made}
use Rattle.wf_task_presets.proofs.family.list_at.Goals as goal

pub nonzero_div-row : goal.nonzero_div-row
nonzero_div-row c = step_some (length c.args.values.now) c.args.size c.loop-place.place c.loop-place.rest c.list_count-later.result c.list_count-later.ensures c.loop-place-test.true c.loop-place.invariant.below

pub bounds-values-rest : goal.bounds-values-rest
bounds-values-rest c = step_place (length c.args.values.now) c.args.size c.loop-place.place c.loop-place.rest c.list_count-later.result c.list_count-later.ensures c.loop-place-test.true c.loop-place.invariant.below

pub nonzero_rem-rest : goal.nonzero_rem-rest
nonzero_rem-rest c = step_some (length c.args.values.now) c.args.size c.loop-place.place c.loop-place.rest c.list_count-later.result c.list_count-later.ensures c.loop-place-test.true c.loop-place.invariant.below

pub loop-place-preserved : goal.loop-place-preserved
loop-place-preserved c =
    let xs = c.args.values.now in
    record {
      four = length-set c.loop-place.row c.loop-place.place _ ∙ c.loop-place.invariant.four;
      below = step_below (length xs) c.args.size c.loop-place.place c.loop-place.rest c.list_count-later.result c.list_count-later.ensures c.loop-place-test.true c.loop-place.invariant.below;
      made = step_made xs c.loop-place.row c.args.size c.loop-place.place c.loop-place.rest c.list_count-later.result c.args.number c.list_count-later.ensures c.loop-place-test.true c.loop-place.invariant.below
          (omega (arith, c.loop-place-test.true, c.requires.few, c.loop-place.invariant.four)) c.loop-place.invariant.made;
    }

pub returns : goal.returns
returns c =
    c.new.ensures
    ∙ list_made c.args.values.now c.loop-place.row c.args.size c.loop-place.place c.loop-place.rest c.args.number c.loop-place-test.false c.loop-place.auto.place-end c.loop-place.invariant.made
    ∙ sym (get_or-lists_of c.args.values.now c.args.size c.args.number c.requires.number)
