use Rattle.std.proofs.Common.{◌≡◌, ◌≤◌, ◌*◌, map, length, sym, ap, ◌∙◌, subst, arith}
use Rattle.wf_model.specs.Lists.{below}
use Rattle.wf_model.specs.Problem.{problem_of}
use Rattle.wf_base.specs.Set.Sets.{values_in}
use Rattle.wf_sat_formula.specs.Encoding.{least_true, map_in, question}
use Rattle.wf_sat_formula.specs.SolverText.{model_of}
use Rattle.wf_sat_cnf.specs.Models.{assigned}
use Rattle.wf_sat_cnf.proofs.TextLemmas.{few_values, product_upto}
use Rattle.wf_sat_cnf.proofs.StatedLemmas.{found_in, refused_in}
use Rattle.wf_sat_cnf.proofs.solver.read_map.Goals as goal

pub overflow_mul-points : goal.overflow_mul-points
overflow_mul-points c =
    let v = c.in_ok-variables.variables in
    let few : v.width ≤ 256 = subst (λ n. n ≤ 256) (sym c.in_ok-variables.ensures.numbered.width) (few_values v.values) in
    omega (arith, product_upto c.points.result v.width c.points.ensures.few few)

pub empty-requires : goal.empty-requires
empty-requires c =
    let v = c.in_ok-variables.variables in
    let few : v.width ≤ 256 = subst (λ n. n ≤ 256) (sym c.in_ok-variables.ensures.numbered.width) (few_values v.values) in
    omega (arith, product_upto c.points.result v.width c.points.ensures.few few)

pub returns-in-Ok : goal.returns-in-Ok
returns-in-Ok c =
    let t = c.args.task.now in
    let r = c.args.protocol.now.rounds in
    let p = problem_of t r in
    let v = c.in_ok-variables.variables in
    let all : values_in v.values ≡ p.values = ap values_in c.in_ok-variables.ensures.values ∙ c.values.ensures.values in
    let width : v.width ≡ length p.values = c.in_ok-variables.ensures.numbered.width ∙ ap length all in
    let points : c.points.result ≡ p.points = c.points.ensures.points ∙ ap length c.requires.protocol.points_are in
    let points_too : c.points-in-Ok.result ≡ p.points = c.points-in-Ok.ensures.points ∙ ap length c.requires.protocol.points_are in
    let are : c.points.result * v.width ≡ (question t r).variables = λ i. points i * width i in
    let found = found_in (c.points.result * v.width) c.in_ok-stated.stated c.args.text.now (assigned c.read.new.self.truths.items) c.in_ok-stated.ensures c.in-Ok.ensures.read in
    let same : map (least_true (values_in v.values) (assigned c.deref.result.now)) (below c.points-in-Ok.result) ≡ map_in p (assigned c.read.new.self.truths.items) =
    λ i. map (least_true (all i) (assigned (c.deref.ensures.value i))) (below (points_too i)) in (
      found.0,
      ap (λ n. model_of n c.args.text.now) (sym are) ∙ found.1,
      c.in_ok-least_values-in-Ok.ensures ∙ same ∙ ap (map_in p) (sym found.2),
    )

pub returns : goal.returns
returns c =
    let t = c.args.task.now in
    let r = c.args.protocol.now.rounds in
    let p = problem_of t r in
    let v = c.in_ok-variables.variables in
    let all : values_in v.values ≡ p.values = ap values_in c.in_ok-variables.ensures.values ∙ c.values.ensures.values in
    let width : v.width ≡ length p.values = c.in_ok-variables.ensures.numbered.width ∙ ap length all in
    let points : c.points.result ≡ p.points = c.points.ensures.points ∙ ap length c.requires.protocol.points_are in
    let are : c.points.result * v.width ≡ (question t r).variables = λ i. points i * width i in
    refused_in t r (c.points.result * v.width) c.in_ok-stated.stated c.args.text.now c.in-Err.fault c.in_ok-stated.ensures are c.in-Err.ensures.read
