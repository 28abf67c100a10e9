use Rattle.std.proofs.Common.{◌++◌, decimal, string_bytes, codes, ap, ◌∙◌, arith}
use Rattle.wf_model.specs.Lists.{below}
use Rattle.wf_model.proofs.Lemmas.{length-below}
use Rattle.wf_tree_explain.proofs.ListsInWords.{all_added, next_number, none_left, one_added}
use Rattle.wf_tree_explain.proofs.lists.put_below.Goals as goal

pub numbers-preserved : goal.numbers-preserved
numbers-preserved c =
    let n = c.numbers.number-counter in
    one_added (string_bytes c.numbers.text) _ _ _ _ _
    (c.in_ok-write.ensures.bytes ∙ ap (λ b. string_bytes c.numbers.text ++ (b ++ decimal n)) c.separator-before.ensures)
    (next_number (codes ", ") (codes " and ") n c.args.count c.numbers-test.true)
    c.numbers.invariant

pub returns : goal.returns
returns c =
    let n = c.numbers.number-counter in
    let long = length-below c.args.count in
    let high = c.numbers-test.false in
    all_added (string_bytes c.numbers.text) _ _ (none_left decimal (codes ", ") (codes " and ") n (below c.args.count) (omega (arith, long, high))) c.numbers.invariant
