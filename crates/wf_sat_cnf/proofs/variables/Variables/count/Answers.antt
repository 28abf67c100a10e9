use Rattle.std.proofs.Common.{◌≤◌, sym, subst, arith}
use Rattle.wf_sat_cnf.proofs.TextLemmas.{few_values, product_upto}
use Rattle.wf_sat_cnf.proofs.variables.Variables.count.Goals as goal

pub overflow_mul-result : goal.overflow_mul-result
overflow_mul-result c =
    let v = c.args.self.now in
    let few : v.width ≤ 256 = subst (λ n. n ≤ 256) (sym c.requires.numbered.width) (few_values v.values) in
    omega (arith, product_upto c.args.points v.width c.requires.few few)
