use Rattle.std.proofs.Common.{List, ℕ, ap, ◌∙◌}
use Rattle.wf_tree_model.specs.Trees.{largest}
use Rattle.wf_tree_refine.proofs.LargestSteps.{largest_more}
use Rattle.wf_tree_refine.proofs.values.largest_of.Goals as goal

pub rows-preserved : goal.rows-preserved
rows-preserved c =
    largest_more (λ (tuple : List ℕ). tuple) c.args.rows.now c.rows.row-index c.row-item.result c.rows.most c.largest_in.result c.max-most.result c.rows-test.true c.row-item.is c.rows.invariant
    (c.largest_in.ensures ∙ ap largest c.as_slice.ensures) c.max-most.ensures
