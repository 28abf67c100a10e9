use Rattle.std.proofs.Common.{◌≡◌, suc, ◌+◌, ◌∙◌, [], Err, sym, ap, arith}
use Rattle.wf_tree_text.proofs.NodeLines.{not_last}
use Rattle.wf_tree_text.proofs.reading.check_end.Goals as goal

pub returns-then-not-is_empty : goal.returns-then-not-is_empty
returns-then-not-is_empty c =
    let k = c.args.at in
    let next : suc k ≡ k + 1 = omega arith in
    not_last k [] c.args.behind.now (sym c.is_empty.ensures ∙ c.if-not-is_empty.true) ∙ ap Err next
