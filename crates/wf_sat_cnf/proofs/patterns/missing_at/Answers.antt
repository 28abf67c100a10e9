use Rattle.std.proofs.Common.{◌≡◌, ℕ, map, filter, take, vec_items, ap, sym, ◌∙◌}
use Rattle.wf_model.specs.Lists.{has}
use Rattle.wf_base.specs.Set.Sets.{values_in}
use Rattle.wf_sat_cnf.specs.Found.{occurs, occurs_in_each}
use Rattle.wf_sat_cnf.proofs.TupleLemmas.{each_more, items_more, items_all, each_of_none}
use Rattle.wf_sat_cnf.proofs.patterns.missing_at.Goals as goal

pub loop-tuples-init : goal.loop-tuples-init
loop-tuples-init c = each_of_none c.args.place (values_in c.args.values)

pub loop-tuples-preserved : goal.loop-tuples-preserved
loop-tuples-preserved c =
    let n = c.loop-tuples.tuples-index in
    let says : (v : ℕ) → has (values_in c.values_at.result) v ≡ occurs (vec_items c.tuples-item.result) c.args.place v =
    λ v. c.values_at.ensures v ∙ ap (λ ts. occurs ts c.args.place v) c.deref.ensures.value in
    each_more (values_in c.args.values) (map vec_items (take n c.args.nearly.now)) (vec_items c.tuples-item.result) c.args.place (values_in c.loop-tuples.missing) (values_in c.values_at.result) (values_in c.intersection-fewer.result)
    says c.loop-tuples.invariant c.intersection-fewer.ensures
    ∙ ap (λ lists. filter (occurs_in_each lists c.args.place) (values_in c.args.values)) (sym (items_more c.args.nearly.now n c.tuples-item.result c.loop-tuples-test.true c.tuples-item.is))

pub returns : goal.returns
returns c =
    c.loop-tuples.invariant
    ∙ ap (λ lists. filter (occurs_in_each lists c.args.place) (values_in c.args.values)) (items_all c.args.nearly.now c.loop-tuples.tuples-index c.loop-tuples-test.false)
