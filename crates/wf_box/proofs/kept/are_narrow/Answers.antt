use Rattle.std.proofs.Common.{[], arith, ap, sym, ◌∙◌, take_all}
use Rattle.std.specs.List.{list_all}
use Rattle.std.proofs.lemmas.List.Folds.{list_all-map, list_all_at}
use Rattle.wf_base.specs.Set.Sets.{values_in}
use Rattle.wf_box.specs.Kept.{is_narrow}
use Rattle.wf_box.proofs.kept.are_narrow.Goals as goal

pub returns-then-not-is_narrow : goal.returns-then-not-is_narrow
returns-then-not-is_narrow c =
    sym (list_all-map is_narrow values_in c.args.sets.now
    ∙ list_all_at (λ set. is_narrow (values_in set)) c.args.sets.now c.loop-set.set-index [] (omega arith) (sym c.if-not-is_narrow.ensures))

pub returns : goal.returns
returns c =
    sym (list_all-map is_narrow values_in c.args.sets.now
    ∙ ap (list_all (λ set. is_narrow (values_in set))) (sym (take_all c.loop-set.set-index c.args.sets.now c.loop-set-test.false))
    ∙ c.loop-set.invariant)
