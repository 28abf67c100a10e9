use Rattle.std.proofs.Common.{◌≡◌, ◌≤◌, ◌++◌, ◌∷◌, [], sym, ap, ◌∙◌, subst, arith}
use Rattle.wf_model.specs.Lists.{below}
use Rattle.wf_task_presets.specs.Family.{AreFew}
use Rattle.wf_task_presets.proofs.FamilyTasks.{numbers-are}
use Rattle.wf_task_presets.proofs.family.numbers_below.Goals as goal
use Rattle.wf_model.proofs.Lemmas.{below_next}

pub loop-number-preserved : goal.loop-number-preserved
loop-number-preserved c =
    let so_far : c.loop-number.numbers.items ≡ below c.loop-number.number = c.loop-number.invariant in
    c.in_ok-push.ensures.items ∙ ap (λ xs. xs ++ c.loop-number.number ∷ []) so_far ∙ sym (below_next c.loop-number.number)

pub returns-clause-few : goal.returns-clause-few
returns-clause-few c =
    let few : c.loop-number.number ≤ 64 = omega (arith, c.loop-number.auto.number-end, c.requires) in
    subst AreFew (sym c.loop-number.invariant) (numbers-are c.loop-number.number few)
