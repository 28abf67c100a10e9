use Rattle.std.proofs.Common.{map, ap}
use Rattle.wf_base.specs.Set.Sets.{values_in}
use Rattle.wf_sat_formula.specs.Branches.{ruled_out}
use Rattle.wf_sat_cnf.specs.Tokens.{formula_tokens}
use Rattle.wf_sat_cnf.proofs.ExclusionLemmas.{next_clause}
use Rattle.wf_sat_cnf.proofs.TakenLemmas.{all_taken, stopped, went_on}
use Rattle.wf_sat_cnf.proofs.exclusions.give_missing.Goals as goal

pub values-preserved : goal.values-preserved
values-preserved g c =
    let f = ruled_out (values_in c.args.variables.now.values) c.args.point in
    let step = next_clause f c.in-Some.next.0 _ _ c.in-Some.ensures in
    went_on g.met.K.TokenSink.laws _ _ _ _ _ _ _ _ _ _ c.values.invariant c.in_ok-give_ruled_out.ensures step

pub returns-in_err-give_ruled_out : goal.returns-in_err-give_ruled_out
returns-in_err-give_ruled_out g c =
    let f = ruled_out (values_in c.args.variables.now.values) c.args.point in
    let step = next_clause f c.in-Some.next.0 _ _ c.in-Some.ensures in
    stopped g.met.K.TokenSink.laws _ _ _ _ _ _ _ _ _ _ _ c.from_residual.result c.from_residual.ensures.0 c.values.invariant c.in_err-give_ruled_out.ensures step

pub returns : goal.returns
returns g c =
    let f = ruled_out (values_in c.args.variables.now.values) c.args.point in
    all_taken g.met.K.TokenSink.laws _ _ _ _ _ _ c.values.invariant (ap (λ vs. formula_tokens (map f vs)) c.in_default.ensures)
