use Rattle.std.proofs.Common.{◌∙◌, sym, ap}
use Rattle.std.specs.Option.{option_copied}
use Rattle.wf_tree_steps.specs.Balance.Multipliers.{multiplier_seen}
use Rattle.wf_tree_text.specs.Text.{multiplier_key}
use Rattle.wf_tree_text.proofs.LastNode.{follows_last}
use Rattle.wf_tree_text.proofs.nodes.may_follow_multipliers.Goals as goal

pub returns-in-Some : goal.returns-in-Some
returns-in-Some c =
    c.is_smaller_multiplier.ensures
    ∙ sym (follows_last multiplier_key multiplier_seen c.args.multipliers.now c.in-Some.last.now (multiplier_seen c.args.next.now) (sym c.last.ensures.value ∙ ap option_copied c.in-Some.is))
