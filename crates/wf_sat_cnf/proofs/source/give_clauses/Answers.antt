use Rattle.std.proofs.Common.{ℕ, ◌++◌, ◌∙◌, map, length, refl, ap, sym}
use Rattle.std.proofs.lemmas.List.Concat.{flat_map-append}
use Rattle.wf_model.specs.Lists.{below}
use Rattle.wf_base.specs.Set.Sets.{values_in}
use Rattle.wf_sat_formula.specs.Encoding.{at_least_one}
use Rattle.wf_sat_cnf.specs.Patterns.{patterns_seen}
use Rattle.wf_sat_cnf.specs.Clauses.{clauses_on}
use Rattle.wf_sat_cnf.specs.Exclusions.{exclusions_on}
use Rattle.wf_sat_cnf.specs.Tokens.{clause_tokens, formula_tokens}
use Rattle.wf_sat_cnf.proofs.TakenLemmas.{last_taken, none_taken, stopped, went_on}
use Rattle.wf_sat_cnf.proofs.source.give_clauses.Goals as goal

pub returns-in_err-give_points : goal.returns-in_err-give_points
returns-in_err-give_points g c =
    let values = values_in c.args.source.now.variables.now.values in
    let b = c.args.source.now.protocol.now in
    let points = λ (n : ℕ). map (at_least_one values) (below n) in
    let more = clauses_on values (map patterns_seen c.args.source.now.patterns.now) b ++ exclusions_on values (map values_in c.args.source.now.sets.now) in
    let all = formula_tokens (points (length b.points) ++ more) in
    stopped g.met.K.TokenSink.laws _ _ _ _ _ _ all (formula_tokens (points c.points.result)) all (formula_tokens more) _ c.from_residual.result c.from_residual.ensures.0
    (none_taken g.met.K.TokenSink.laws _ _ all c.requires.ready) c.in_err-give_points.ensures
    (flat_map-append clause_tokens (points (length b.points)) more ∙ ap (λ n. formula_tokens (points n) ++ formula_tokens more) (sym c.points.ensures.points))

pub give_executions-requires-clause-ready : goal.give_executions-requires-clause-ready
give_executions-requires-clause-ready g c = g.met.K.TokenSink.laws.stays_open _ _ _ _ _ c.in_ok-give_points.ensures c.requires.ready

pub give_exclusions-requires-clause-ready : goal.give_exclusions-requires-clause-ready
give_exclusions-requires-clause-ready g c =
    g.met.K.TokenSink.laws.stays_open _ _ _ _ _ c.in_ok-give_executions.ensures (g.met.K.TokenSink.laws.stays_open _ _ _ _ _ c.in_ok-give_points.ensures c.requires.ready)

pub returns-in_err-give_executions : goal.returns-in_err-give_executions
returns-in_err-give_executions g c =
    let values = values_in c.args.source.now.variables.now.values in
    let b = c.args.source.now.protocol.now in
    let points = λ (n : ℕ). map (at_least_one values) (below n) in
    let executions = clauses_on values (map patterns_seen c.args.source.now.patterns.now) b in
    let excluded = exclusions_on values (map values_in c.args.source.now.sets.now) in
    let all = formula_tokens (points (length b.points) ++ (executions ++ excluded)) in
    stopped g.met.K.TokenSink.laws _ _ _ _ _ _ all (formula_tokens executions) (formula_tokens (executions ++ excluded)) (formula_tokens excluded) _
    c.from_residual-in_err-give_executions.result c.from_residual-in_err-give_executions.ensures.0
    (went_on g.met.K.TokenSink.laws _ _ _ _ _ _ all (formula_tokens (points c.points.result)) all (formula_tokens (executions ++ excluded))
    (none_taken g.met.K.TokenSink.laws _ _ all c.requires.ready) c.in_ok-give_points.ensures
    (flat_map-append clause_tokens (points (length b.points)) (executions ++ excluded) ∙ ap (λ n. formula_tokens (points n) ++ formula_tokens (executions ++ excluded)) (sym c.points.ensures.points)))
    c.in_err-give_executions.ensures (flat_map-append clause_tokens executions excluded)

pub returns : goal.returns
returns g c =
    let values = values_in c.args.source.now.variables.now.values in
    let b = c.args.source.now.protocol.now in
    let points = λ (n : ℕ). map (at_least_one values) (below n) in
    let executions = clauses_on values (map patterns_seen c.args.source.now.patterns.now) b in
    let excluded = exclusions_on values (map values_in c.args.source.now.sets.now) in
    let all = formula_tokens (points (length b.points) ++ (executions ++ excluded)) in
    last_taken g.met.K.TokenSink.laws _ _ _ _ _ _ all (formula_tokens excluded) (formula_tokens excluded) c.give_exclusions.result
    (went_on g.met.K.TokenSink.laws _ _ _ _ _ _ all (formula_tokens executions) (formula_tokens (executions ++ excluded)) (formula_tokens excluded)
    (went_on g.met.K.TokenSink.laws _ _ _ _ _ _ all (formula_tokens (points c.points.result)) all (formula_tokens (executions ++ excluded))
    (none_taken g.met.K.TokenSink.laws _ _ all c.requires.ready) c.in_ok-give_points.ensures
    (flat_map-append clause_tokens (points (length b.points)) (executions ++ excluded) ∙ ap (λ n. formula_tokens (points n) ++ formula_tokens (executions ++ excluded)) (sym c.points.ensures.points)))
    c.in_ok-give_executions.ensures (flat_map-append clause_tokens executions excluded))
    c.give_exclusions.ensures refl
