use Rattle.std.proofs.Common.{get_or, sym}
use Rattle.std.proofs.lemmas.Grind.{get_or_default_zero}
use Rattle.wf_tree_refine.proofs.LargestSteps.{value_more}
use Rattle.wf_tree_refine.proofs.values.largest_in.Goals as goal

pub values-preserved : goal.values-preserved
values-preserved c =
    let xs = c.args.values.now in
    let i = c.values.value-index in
    let x = get_or xs i 0 in
    value_more xs i x c.values.most c.max-most.result c.values-test.true (sym (get_or_default_zero xs i x c.values-test.true)) c.values.invariant c.max-most.ensures
