use Rattle.std.proofs.Common.{◌<◌, ◌==◌, ◌||◌, [], get_or, length, sym, ap, ◌∙◌, arith}
use Rattle.std.proofs.Math.ListN.{length-set, set}
use Rattle.wf_model.specs.Lists.{has}
use Rattle.wf_base.specs.Set.Sets.{values_in}
use Rattle.wf_tree_refine.proofs.ChoiceSets.{each_taken, name_put}
use Rattle.wf_tree_refine.proofs.splits.add_names.Goals as goal

pub rows-preserved : goal.rows-preserved
rows-preserved c =
    let rows = c.args.rows.now in
    let named = c.args.named.now in
    let sets = c.rows.sets in
    let number = c.rows.number in
    let before = c.rows.invariant in
    let low = c.rows-test.true in
    let row = c.index-rows-number.result in
    let name = c.index-named-number.result in
    let x = c.value.result in
    let each = c.requires.each in
    let there : number < length named = omega (arith, low, each) in
    let place = c.set_place-at.ensures.place in
    record {
      count = length-set sets c.set_place-at.result c.with.result ∙ before.count;
      names = λ p v z pp vv. name_put c.args.process c.args.place sets (set sets c.set_place-at.result c.with.result) rows named number row name x c.value-in-rows.result c.with.result
          c.requires.process before.count low there c.index-rows-number.is c.index-named-number.is (sym c.value.ensures) (sym c.value-in-rows.ensures) c.set_place-at.ensures.value
          (ap (λ n. set sets n c.with.result) place)
          (λ w. c.with.ensures w ∙ ap (λ n. has (values_in (get_or sets n [])) w || c.value-in-rows.result == w) place)
          p v z pp vv
          ∙ before.names p v z pp vv;
      small = each_taken _ named number name there c.index-named-number.is before.small c.size.ensures.small;
    }
