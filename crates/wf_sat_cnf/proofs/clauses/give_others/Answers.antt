use Rattle.std.proofs.Common.{◌<◌, map, length, arith, ap, sym, ◌∙◌, subst}
use Rattle.std.proofs.lemmas.List.{get_or-map, length-map}
use Rattle.wf_base.specs.Set.Sets.{values_in}
use Rattle.wf_sat_cnf.specs.Patterns.{pattern_seen}
use Rattle.wf_sat_cnf.specs.Clauses.{HasPoints, denied_at}
use Rattle.wf_sat_cnf.specs.Tokens.{clause_tokens, formula_tokens}
use Rattle.wf_sat_cnf.proofs.PutLemmas.{next_seen, none_after}
use Rattle.wf_sat_cnf.proofs.TakenLemmas.{all_taken, stopped, went_on}
use Rattle.wf_sat_cnf.proofs.clauses.give_others.Goals as goal

pub give_denied-requires-clause-places : goal.give_denied-requires-clause-places
give_denied-requires-clause-places g c =
    let patterns = c.args.patterns.now in
    let i = c.loop-pattern.pattern-index in
    let x = c.pattern-item.result in
    let low : i < length (map pattern_seen patterns) = omega (arith, c.loop-pattern-test.true, length-map patterns pattern_seen) in
    subst (HasPoints c.args.points.now) (get_or-map pattern_seen patterns i x (pattern_seen x) c.loop-pattern-test.true ∙ ap pattern_seen (sym c.pattern-item.is)) (c.requires.places i (pattern_seen x) low)

pub returns-in_err-give_denied : goal.returns-in_err-give_denied
returns-in_err-give_denied g c =
    let f = denied_at (values_in c.args.variables.now.values) c.args.points.now in
    let step = next_seen clause_tokens f pattern_seen c.args.patterns.now c.loop-pattern.pattern-index c.pattern-item.result c.loop-pattern-test.true c.pattern-item.is in
    stopped g.met.K.TokenSink.laws _ _ _ _ _ _ _ _ _ _ _ c.from_residual.result c.from_residual.ensures.0 c.loop-pattern.invariant c.in_err-give_denied.ensures step

pub loop-pattern-preserved : goal.loop-pattern-preserved
loop-pattern-preserved g c =
    let f = denied_at (values_in c.args.variables.now.values) c.args.points.now in
    let step = next_seen clause_tokens f pattern_seen c.args.patterns.now c.loop-pattern.pattern-index c.pattern-item.result c.loop-pattern-test.true c.pattern-item.is in
    went_on g.met.K.TokenSink.laws _ _ _ _ _ _ _ _ _ _ c.loop-pattern.invariant c.in_ok-give_denied.ensures step

pub returns : goal.returns
returns g c =
    let f = denied_at (values_in c.args.variables.now.values) c.args.points.now in
    all_taken g.met.K.TokenSink.laws _ _ _ _ _ _ c.loop-pattern.invariant
    (ap (λ ps. formula_tokens (map f (map pattern_seen ps))) (none_after c.loop-pattern.pattern-index c.args.patterns.now c.loop-pattern-test.false))
