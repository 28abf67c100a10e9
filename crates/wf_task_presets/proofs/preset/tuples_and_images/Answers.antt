use Rattle.std.proofs.Common.{◌≡◌, All, length, sym, ◌∙◌, subst}
use Rattle.wf_task_presets.proofs.FamilyTasks.{rows-long}
use Rattle.wf_task_presets.proofs.preset.tuples_and_images.Goals as goal

pub add_images-requires : goal.add_images-requires
add_images-requires c =
    subst (All (λ t. length t ≡ length c.simplex-item.result)) (sym (c.deref.ensures.value ∙ c.in_ok-rows.ensures)) (rows-long c.args.family c.simplex-item.result)
