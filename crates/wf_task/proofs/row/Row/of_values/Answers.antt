use Rattle.std.proofs.Common.{◌≤◌, All, length, take, sym, ap, ◌∙◌, subst}
use Rattle.wf_task.specs.Filled.{filled}
use Rattle.wf_task.proofs.FilledSlots.{is_filled, take-filled, length-filled}
use Rattle.wf_task.proofs.row.Row.of_values.Goals as goal

pub invariant_of-result : goal.invariant_of-result
invariant_of-result c =
    let xs = c.args.values.now in
    let row = is_filled xs c.loop-place.row c.loop-place.place c.requires.few c.loop-place-test.false c.loop-place.auto.place-end c.loop-place.invariant in
    let values = ap (take (length xs)) row ∙ take-filled xs c.requires.few in
    (ap length values, ap filled values ∙ sym row, c.requires.some, c.requires.few, ap length row ∙ length-filled xs c.requires.few, subst (All (λ x. x ≤ 255)) (sym values) c.requires.small)
