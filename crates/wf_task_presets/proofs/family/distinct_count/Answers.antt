use Rattle.std.proofs.Common.{◌≡◌, ◌+◌, drop, cond, arith, sym, ap, ◌∙◌}
use Rattle.wf_model.specs.Presets.{different}
use Rattle.wf_task.proofs.Lemmas.{different-few}
use Rattle.wf_task_presets.proofs.FamilyLoops.{counted_step}
use Rattle.wf_task_presets.proofs.family.distinct_count.Goals as goal
use Rattle.wf_task_presets.proofs.family.distinct_count.Goals.{then-not-contains, else-not-contains}

pub overflow_add-count : goal.overflow_add-count
overflow_add-count c =
    let so_far : c.loop-place.count + different (drop c.loop-place.place c.args.values.now) ≡ different c.args.values.now = c.loop-place.invariant in
    omega (arith, so_far, different-few c.args.values.now, c.requires)

pub loop-place-preserved : goal.loop-place-preserved
loop-place-preserved c =
    let n = c.loop-place.count in
    let step = counted_step c.args.values.now c.loop-place.place n c.if-not-contains.count c.contains.result c.loop-place-test.true c.contains.ensures.value in
    elim c.if-not-contains.branch [
      | then-not-contains w ↦ step (w.count-is ∙ ap (λ b. cond b n (n + 1)) (sym w.if-not-contains.true)) c.loop-place.invariant
      | else-not-contains w ↦ step (w.count-is ∙ ap (λ b. cond b n (n + 1)) (sym w.if-not-contains.false)) c.loop-place.invariant
    ]
