use Rattle.std.proofs.Common.{◌≡◌, All, length, sym, ap, ◌∙◌, subst, arith, vec_items}
use Rattle.std.specs.Cmp.Lexicographic.{slice_cmp}
use Rattle.std.specs.Ordering.{nat_cmp}
use Rattle.std.proofs.lemmas.Grind.{get_or_default_zero}
use Rattle.wf_model.specs.Lists.{in_order}
use Rattle.wf_tree_model.specs.Cases.{components, is_step}
use Rattle.wf_tree_model.specs.Parts.{parts}
use Rattle.wf_tree_refine.proofs.CaseSteps.{rule_found}
use Rattle.wf_tree_refine.proofs.Membership.{once_in_order}
use Rattle.wf_tree_refine.proofs.PartCounts.{above_all_is, known, length-parts}
use Rattle.wf_tree_refine.proofs.components.count_components.Goals as goal

pub component_indices-requires-clause-few : goal.component_indices-requires-clause-few
component_indices-requires-clause-few c =
    let of = rule_found c.args.task.now vec_items c.args.rows.now c.args.simplex c.simplices-simplices.result.now c.index-simplices-simplex.result c.index-rows-simplex.result c.requires.at_hand c.requires.simplex (c.simplices-simplices.ensures.simplices ∙ c.inputs.ensures.inputs) c.index-simplices-simplex.is c.index-rows-simplex.is in
    let same = ap length c.deref.ensures.value in
    let few = of.1.few in
    omega (arith, same, few)

pub component_indices-requires-clause-ascending : goal.component_indices-requires-clause-ascending
component_indices-requires-clause-ascending c =
    let of = rule_found c.args.task.now vec_items c.args.rows.now c.args.simplex c.simplices-simplices.result.now c.index-simplices-simplex.result c.index-rows-simplex.result c.requires.at_hand c.requires.simplex (c.simplices-simplices.ensures.simplices ∙ c.inputs.ensures.inputs) c.index-simplices-simplex.is c.index-rows-simplex.is in
    subst (λ rows. in_order (slice_cmp nat_cmp) rows ≡ rows) (sym c.deref.ensures.value) of.1.ascending

pub component_indices-requires-clause-long : goal.component_indices-requires-clause-long
component_indices-requires-clause-long c =
    let of = rule_found c.args.task.now vec_items c.args.rows.now c.args.simplex c.simplices-simplices.result.now c.index-simplices-simplex.result c.index-rows-simplex.result c.requires.at_hand c.requires.simplex (c.simplices-simplices.ensures.simplices ∙ c.inputs.ensures.inputs) c.index-simplices-simplex.is c.index-rows-simplex.is in
    subst (λ n. All (λ row. length row ≡ n) c.deref.result.now) (sym c.colours.ensures.count)
    (subst (All (λ row. length row ≡ length c.index-simplices-simplex.result)) (sym c.deref.ensures.value) of.1.long)

pub one_above_largest-requires : goal.one_above_largest-requires
one_above_largest-requires c = λ k d low.
    let of = rule_found c.args.task.now vec_items c.args.rows.now c.args.simplex c.simplices-simplices.result.now c.index-simplices-simplex.result c.index-rows-simplex.result c.requires.at_hand c.requires.simplex (c.simplices-simplices.ensures.simplices ∙ c.inputs.ensures.inputs) c.index-simplices-simplex.is c.index-rows-simplex.is in
    let rows = c.deref.result.now in
    let near = is_step c.colours.result in
    let numbers = c.deref-2.result.now in
    let once = once_in_order rows (subst (λ rs. in_order (slice_cmp nat_cmp) rs ≡ rs) (sym c.deref.ensures.value) of.1.ascending) in
    let number = known near rows once numbers (c.deref-2.ensures.value ∙ c.in_ok-numbers.ensures) k low in
    let at = get_or_default_zero numbers k d low in
    let fewer = length-parts near rows in
    let same = ap length c.deref.ensures.value in
    let few = of.1.few in
    omega (arith, number, at, fewer, same, few)

pub returns : goal.returns
returns c =
    let of = rule_found c.args.task.now vec_items c.args.rows.now c.args.simplex c.simplices-simplices.result.now c.index-simplices-simplex.result c.index-rows-simplex.result c.requires.at_hand c.requires.simplex (c.simplices-simplices.ensures.simplices ∙ c.inputs.ensures.inputs) c.index-simplices-simplex.is c.index-rows-simplex.is in
    let rows = c.deref.result.now in
    let once = once_in_order rows (subst (λ rs. in_order (slice_cmp nat_cmp) rs ≡ rs) (sym c.deref.ensures.value) of.1.ascending) in
    above_all_is (is_step c.colours.result) rows once c.deref-2.result.now (c.deref-2.ensures.value ∙ c.in_ok-numbers.ensures) c.one_above_largest.result c.one_above_largest.ensures.above c.one_above_largest.ensures.first
    ∙ ap (λ n. length (parts (is_step n) rows)) c.colours.ensures.count
    ∙ ap (λ rs. length (parts (is_step (length c.index-simplices-simplex.result)) rs)) c.deref.ensures.value
    ∙ ap (λ rule. length (components rule)) (sym of.0)
