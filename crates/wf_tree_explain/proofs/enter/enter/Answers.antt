use Rattle.std.proofs.Common.{◌∷◌, drop, map, string_bytes, ap, ◌∙◌, vec_items}
use Rattle.wf_tree_steps.specs.Balance.Multipliers.{multipliers_seen}
use Rattle.wf_tree_refine.specs.AtHand.{at_hand}
use Rattle.wf_tree_text.specs.Seen.{node_seen}
use Rattle.wf_tree_explain.specs.Words.{balance_text, told}
use Rattle.wf_tree_explain.proofs.Telling.{balance_told, hand_balance, piece_told}
use Rattle.wf_tree_explain.proofs.enter.enter.Goals as goal

pub returns-in_ok-put_balance-in-Balance-clause-told : goal.returns-in_ok-put_balance-in-Balance-clause-told
returns-in_ok-put_balance-in-Balance-clause-told c = λ next nodes.
    let t = c.args.walk.now.task.now in
    let rows = map vec_items c.args.rows.now in
    let hand = at_hand t rows in
    let b = c.in-Balance.balance in
    let xs = multipliers_seen b.multipliers.items in
    piece_told (string_bytes c.args.text.now) (string_bytes c.put_balance.new.text) (balance_text t c.args.at.depth b.modulus b.sum xs) _ _
    c.in_ok-put_balance-in-Balance.ensures
    (ap (λ n. told c.args.at.levels hand c.args.at.depth (node_seen n ∷ drop next nodes)) c.in-Balance.is
    ∙ balance_told c.args.at.levels hand c.args.at.depth b.modulus b.sum xs (drop next nodes)
    ∙ hand_balance t rows c.args.at.depth b.modulus b.sum xs (drop next nodes) c.requires)
