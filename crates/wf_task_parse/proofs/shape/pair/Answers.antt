use Rattle.std.proofs.Common.{length, option_and_then, arith, ap, ◌∙◌}
use Rattle.wf_task_parse.specs.Shape.{pair_items}
use Rattle.wf_task_parse.proofs.Lists.{pair_short, pair_long}
use Rattle.wf_task_parse.proofs.shape.pair.Goals as goal

pub returns-in_default : goal.returns-in_default
returns-in_default c =
    pair_short c.in_ok-items.items.now.items (omega (arith, ap length c.as_slice.ensures.value)) ∙ ap (option_and_then pair_items) c.in_ok-items.ensures

pub returns-in_default-2 : goal.returns-in_default-2
returns-in_default-2 c =
    pair_long c.in_ok-items.items.now.items (omega (arith, ap length c.as_slice.ensures.value)) ∙ ap (option_and_then pair_items) c.in_ok-items.ensures
