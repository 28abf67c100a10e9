use Rattle.std.proofs.Common.{◌≤◌, ◌<◌, ◌^◌, All, length, take, get_or, arith, sym, ap, ◌∙◌, subst}
use Rattle.std.proofs.lemmas.List.{get_or_default}
use Rattle.wf_tree_steps.specs.Balance.Filled.{filled}
use Rattle.wf_tree_steps.proofs.OfBalance.FilledValues.{is_filled, take-filled, length-filled}
use Rattle.wf_tree_steps.proofs.balance.others.Others.new.Goals as goal

pub invariant_of-result : goal.invariant_of-result
invariant_of-result c =
    let xs = c.args.values.now in
    let others = is_filled xs c.loop-place.others c.loop-place.place c.requires c.loop-place-test.false c.loop-place.auto.place-end c.loop-place.invariant in
    let small : All (λ x. x ≤ 255) xs = λ k d inside. (let fits : get_or xs k 0 < 2 ^ 8 = (c.type_inv.values k).fits in omega (arith, fits, get_or_default xs k d 0 inside)) in
    let values = ap (take (length xs)) others ∙ take-filled xs c.requires in
    (ap length values, ap filled values ∙ sym others, c.requires, ap length others ∙ length-filled xs c.requires, subst (All (λ x. x ≤ 255)) (sym values) small)
