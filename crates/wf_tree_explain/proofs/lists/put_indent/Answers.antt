use Rattle.std.proofs.Common.{◌≡◌, ◌-◌, ◌+◌, suc, codes, ap, arith}
use Rattle.std.specs.Prelude.{string_bytes}
use Rattle.wf_tree_explain.specs.Words.{spaces}
use Rattle.wf_tree_explain.proofs.ListsInWords.{one_added}
use Rattle.wf_tree_explain.proofs.lists.put_indent.Goals as goal

pub cases-preserved : goal.cases-preserved
cases-preserved c =
    let n = c.cases._case in
    let end = c.min-case-end.result in
    let low = c.cases-test.true in
    let e : end - n ≡ suc (end - (n + 1)) = omega (arith, low) in
    one_added (string_bytes c.cases.text) _ _ (codes "  ") (spaces (end - n)) (spaces (end - (n + 1))) c.in_ok-write.ensures.bytes (ap spaces e) c.cases.invariant
