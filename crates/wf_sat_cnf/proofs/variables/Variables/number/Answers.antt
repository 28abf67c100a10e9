use Rattle.std.proofs.Common.{◌≡◌, ◌*◌, ◌≤◌, ◌<◌, sym, ◌∙◌, subst, arith}
use Rattle.std.proofs.lemmas.List.{get_or_default}
use Rattle.wf_base.specs.Set.Sets.{values_in}
use Rattle.wf_sat_formula.specs.Encoding.{rank_in}
use Rattle.wf_sat_cnf.proofs.TextLemmas.{few_values, few_ranks, product_few}
use Rattle.wf_sat_cnf.proofs.variables.Variables.number.Goals as goal

narrow : goal.Start → Type 0
narrow c = c.args.point * c.args.self.now.width ≤ 512000000

is_narrow : (c : goal.Start) → narrow c
unfolding narrow
is_narrow c =
    let few : c.args.self.now.width ≤ 256 = subst (λ n. n ≤ 256) (sym c.requires.numbered.width) (few_values c.args.self.now.values) in
    product_few c.args.point c.args.self.now.width c.requires.point few

pub overflow_mul-result : goal.overflow_mul-result
unfolding narrow
overflow_mul-result c = omega (arith, is_narrow c)

pub overflow_add-result : goal.overflow_add-result
overflow_add-result c =
    let few : c.args.self.now.width ≤ 256 = subst (λ n. n ≤ 256) (sym c.requires.numbered.width) (few_values c.args.self.now.values) in
    let product = product_few c.args.point c.args.self.now.width c.requires.point few in
    let low : c.args.value < 256 = omega (arith, c.ranges.value) in
    let rank : c.index.result.now ≡ rank_in (values_in c.args.self.now.values) c.args.value =
    c.index.ensures ∙ get_or_default c.args.self.now.ranks.items c.args.value c.index.result.now 0 (omega (arith, low, c.requires.numbered.long)) ∙ c.requires.numbered.ranks c.args.value low in
    omega (arith, product, rank, few_ranks c.args.self.now.values c.args.value)

pub overflow_add-result-2 : goal.overflow_add-result-2
overflow_add-result-2 c =
    let few : c.args.self.now.width ≤ 256 = subst (λ n. n ≤ 256) (sym c.requires.numbered.width) (few_values c.args.self.now.values) in
    let product = product_few c.args.point c.args.self.now.width c.requires.point few in
    let low : c.args.value < 256 = omega (arith, c.ranges.value) in
    let rank : c.index.result.now ≡ rank_in (values_in c.args.self.now.values) c.args.value =
    c.index.ensures ∙ get_or_default c.args.self.now.ranks.items c.args.value c.index.result.now 0 (omega (arith, low, c.requires.numbered.long)) ∙ c.requires.numbered.ranks c.args.value low in
    omega (arith, product, rank, few_ranks c.args.self.now.values c.args.value)
