use Rattle.std.proofs.Common.{map, ap, arith}
use Rattle.wf_base.specs.Set.Sets.{values_in}
use Rattle.wf_sat_formula.specs.Encoding.{at_least_one}
use Rattle.wf_sat_cnf.specs.Tokens.{clause_tokens, formula_tokens}
use Rattle.wf_sat_cnf.proofs.PutLemmas.{next_of, no_number}
use Rattle.wf_sat_cnf.proofs.TakenLemmas.{all_taken, stopped, went_on}
use Rattle.wf_sat_cnf.proofs.clauses.give_points.Goals as goal

pub returns-in_err-give_point : goal.returns-in_err-give_point
returns-in_err-give_point g c =
    let f = at_least_one (values_in c.args.variables.now.values) in
    let step = next_of clause_tokens f c.loop-point.point c.args.points c.loop-point-test.true in
    stopped g.met.K.TokenSink.laws _ _ _ _ _ _ _ _ _ _ _ c.from_residual.result c.from_residual.ensures.0 c.loop-point.invariant c.in_err-give_point.ensures step

pub loop-point-preserved : goal.loop-point-preserved
loop-point-preserved g c =
    let f = at_least_one (values_in c.args.variables.now.values) in
    let step = next_of clause_tokens f c.loop-point.point c.args.points c.loop-point-test.true in
    went_on g.met.K.TokenSink.laws _ _ _ _ _ _ _ _ _ _ c.loop-point.invariant c.in_ok-give_point.ensures step

pub returns : goal.returns
returns g c =
    let f = at_least_one (values_in c.args.variables.now.values) in
    all_taken g.met.K.TokenSink.laws _ _ _ _ _ _ c.loop-point.invariant (ap (λ ns. formula_tokens (map f ns)) (no_number c.loop-point.point c.args.points (omega (arith, c.loop-point-test.false))))
