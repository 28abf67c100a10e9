use Rattle.std.proofs.Common.{◌∙◌, sym, ap}
use Rattle.std.specs.Option.{option_copied}
use Rattle.wf_tree_steps.specs.Cover.Faults.{move_seen}
use Rattle.wf_tree_text.specs.Text.{move_key}
use Rattle.wf_tree_text.proofs.LastNode.{follows_last}
use Rattle.wf_tree_text.proofs.nodes.may_follow_moves.Goals as goal

pub returns-in-Some : goal.returns-in-Some
returns-in-Some c =
    c.is_smaller_move.ensures
    ∙ sym (follows_last move_key move_seen c.args.moves.now c.in-Some.last.now (move_seen c.args.next.now) (sym c.last.ensures.value ∙ ap option_copied c.in-Some.is))
