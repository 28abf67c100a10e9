use Rattle.std.proofs.Common.{◌≡◌, ◌≤◌, All, length, subst, sym, ◌∙◌}
use Rattle.std.specs.List.{AllByRecursion}
use Rattle.wf_tree_refine.specs.Names.{splitting}
use Rattle.wf_tree_refine.proofs.SplitSteps.{all_named_long, none_large}
use Rattle.wf_tree_refine.proofs.splits.split_by.Goals as goal

pub name_sets-requires-clause-named : goal.name_sets-requires-clause-named
name_sets-requires-clause-named c =
    subst (All (λ row. length row ≡ length c.args.simplex.now)) (sym (c.deref.ensures.value ∙ c.in_ok-named.ensures.named)) (all_named_long (splitting c.args.simplex.now c.args.rows.now c.args.new) c.args.rows.now)

pub returns-clause-small : goal.returns-clause-small
returns-clause-small c =
    none_large (splitting c.args.simplex.now c.args.rows.now c.args.new) c.args.rows.now
    (subst (AllByRecursion (All (λ name. name ≤ 255))) (c.deref.ensures.value ∙ c.in_ok-named.ensures.named) c.in_ok-sets.ensures.small)
