use Rattle.std.proofs.Common.{◌≡◌, All, length, sym, ap, ◌∙◌, subst, arith, vec_items}
use Rattle.std.specs.Cmp.Lexicographic.{slice_cmp}
use Rattle.std.specs.Ordering.{nat_cmp}
use Rattle.wf_model.specs.Lists.{in_order}
use Rattle.wf_tree_refine.proofs.Lemmas.{rule_found}
use Rattle.wf_tree_finder.proofs.splits.split_renames.Goals as goal

pub named_rows-requires-clause-few : goal.named_rows-requires-clause-few
named_rows-requires-clause-few g c =
    let ins = c.simplices-simplices.ensures.simplices ∙ c.inputs.ensures.inputs in
    let of = rule_found c.args.search.now.task.now vec_items c.args.rows.now c.args.simplex c.simplices-simplices.result.now c.index-simplices-simplex.result c.index-rows-simplex.result c.requires.at_hand c.requires.simplex ins c.index-simplices-simplex.is c.index-rows-simplex.is in
    let few = of.1.few in
    let same = ap length c.deref.ensures.value in
    omega (arith, few, same)

pub named_rows-requires-clause-ascending : goal.named_rows-requires-clause-ascending
named_rows-requires-clause-ascending g c =
    let ins = c.simplices-simplices.ensures.simplices ∙ c.inputs.ensures.inputs in
    let of = rule_found c.args.search.now.task.now vec_items c.args.rows.now c.args.simplex c.simplices-simplices.result.now c.index-simplices-simplex.result c.index-rows-simplex.result c.requires.at_hand c.requires.simplex ins c.index-simplices-simplex.is c.index-rows-simplex.is in
    subst (λ rs. in_order (slice_cmp nat_cmp) rs ≡ rs) (sym c.deref.ensures.value) of.1.ascending

pub named_rows-requires-clause-long : goal.named_rows-requires-clause-long
named_rows-requires-clause-long g c =
    let ins = c.simplices-simplices.ensures.simplices ∙ c.inputs.ensures.inputs in
    let of = rule_found c.args.search.now.task.now vec_items c.args.rows.now c.args.simplex c.simplices-simplices.result.now c.index-simplices-simplex.result c.index-rows-simplex.result c.requires.at_hand c.requires.simplex ins c.index-simplices-simplex.is c.index-rows-simplex.is in
    subst (All (λ row. length row ≡ length c.index-simplices-simplex.result)) (sym c.deref.ensures.value) of.1.long
