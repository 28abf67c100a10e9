use Rattle.std.proofs.Common.{◌≤◌, ◌∷◌, [], Some, None, ap, refl, sym, subst}
use Rattle.wf_base.specs.Set.Sets.{values_in}
use Rattle.wf_sat_text.specs.Clauses.Formula.{neg}
use Rattle.wf_sat_check.specs.Rup.Codes.{most_variables}
use Rattle.wf_sat_formula.specs.Branches.{ruled_out}
use Rattle.wf_sat_cnf.specs.Tokens.{clause_tokens}
use Rattle.wf_sat_cnf.proofs.TextLemmas.{few_variables}
use Rattle.wf_sat_cnf.proofs.TakenLemmas.{last_taken, none_taken, stopped, went_on}
use Rattle.wf_sat_cnf.proofs.exclusions.give_ruled_out.Goals as goal

pub negative-requires-clause-known : goal.negative-requires-clause-known
negative-requires-clause-known g c =
    subst (λ n. n ≤ most_variables) (sym c.number.ensures) (few_variables c.args.variables.now.values c.args.point c.args.value c.requires.point)

pub returns-in_err-negative : goal.returns-in_err-negative
returns-in_err-negative g c =
    let all = clause_tokens (ruled_out (values_in c.args.variables.now.values) c.args.point c.args.value) in
    stopped g.met.K.TokenSink.laws _ _ _ _ _ _ all (Some (neg c.number.result) ∷ []) all (None ∷ []) _ c.from_residual.result c.from_residual.ensures.0
    (none_taken g.met.K.TokenSink.laws _ _ all c.requires.ready) c.in_err-negative.ensures (ap (λ n. clause_tokens (neg n ∷ [])) (sym c.number.ensures))

pub returns : goal.returns
returns g c =
    let all = clause_tokens (ruled_out (values_in c.args.variables.now.values) c.args.point c.args.value) in
    last_taken g.met.K.TokenSink.laws _ _ _ _ _ _ all (None ∷ []) (None ∷ []) c.end_clause.result
    (went_on g.met.K.TokenSink.laws _ _ _ _ _ _ all (Some (neg c.number.result) ∷ []) all (None ∷ []) (none_taken g.met.K.TokenSink.laws _ _ all c.requires.ready) c.in_ok-negative.ensures
    (ap (λ n. clause_tokens (neg n ∷ [])) (sym c.number.ensures)))
    c.end_clause.ensures refl
