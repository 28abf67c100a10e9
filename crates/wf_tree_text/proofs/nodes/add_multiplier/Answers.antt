use Rattle.std.proofs.Common.{◌-◌, refl, arith}
use Rattle.std.specs.Vec.{vec_len}
use Rattle.wf_tree_steps.specs.Balance.Multipliers.{multiplier_seen}
use Rattle.wf_tree_text.specs.Text.{with_multiplier}
use Rattle.wf_tree_text.proofs.LastNode.{at_last_changed}
use Rattle.wf_tree_text.proofs.nodes.add_multiplier.Goals as goal

pub returns-in-Some : goal.returns-in-Some
returns-in-Some c =
    let nodes = c.args.nodes.now in
    let some = c.in-Some.ensures.variant.0 refl in
    at_last_changed c.put_multiplier.result nodes.items (vec_len nodes - 1) c.in-Some.node.now c.put_multiplier.new.node (with_multiplier (multiplier_seen c.args.next)) (omega (arith, some, nodes.ok)) c.in-Some.ensures.value c.put_multiplier.ensures
