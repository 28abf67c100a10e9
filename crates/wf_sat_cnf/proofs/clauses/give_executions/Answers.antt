use Rattle.std.proofs.Common.{All, subst, ◌≡◌, ◌+◌, ◌<◌, ◌≤◌, ◌++◌, map, flat_map, length, arith, ◌∙◌, ap, sym}
use Rattle.wf_base.specs.Set.Sets.{values_in}
use Rattle.wf_sat_cnf.specs.Patterns.{patterns_seen}
use Rattle.wf_sat_cnf.specs.Clauses.{AreFew, HasPoints, clauses_at, denied_at, patterns_in, points_in}
use Rattle.wf_sat_cnf.specs.Tokens.{clause_tokens, formula_tokens}
use Rattle.wf_sat_cnf.proofs.TextLemmas.{pattern_there}
use Rattle.wf_sat_cnf.proofs.PutLemmas.{between_numbers, next_list_of, no_number}
use Rattle.wf_sat_cnf.proofs.TakenLemmas.{all_taken, stopped, went_on}
use Rattle.wf_sat_cnf.proofs.clauses.give_executions.Goals as goal

pub give_patterns-requires-clause-places : goal.give_patterns-requires-clause-places
give_patterns-requires-clause-places g c =
    let b = c.args.protocol.now in
    let e = c.loop-execution.execution in
    let patterns = c.args.patterns.now in
    let low : e < length b.scopes = omega (arith, c.loop-execution-test.true, c.executions-execution-end.ensures.executions) in
    let covered = c.requires.covered e low in
    let there : patterns_seen c.index-patterns-simplex.result ≡ patterns_in (map patterns_seen patterns) b e =
    pattern_there patterns_seen patterns b.simplices e c.simplex_of-simplex.result c.index-patterns-simplex.result c.simplex_of-simplex.ensures covered.simplex c.index-patterns-simplex.is in
    subst (λ points. All (HasPoints points) (patterns_seen c.index-patterns-simplex.result)) (sym c.points_of-points.ensures) (subst (All (HasPoints (points_in b e))) (sym there) covered.places)

pub give_patterns-requires-clause-few : goal.give_patterns-requires-clause-few
give_patterns-requires-clause-few g c =
    let low : c.loop-execution.execution < length c.args.protocol.now.scopes = omega (arith, c.loop-execution-test.true, c.executions-execution-end.ensures.executions) in
    subst AreFew (sym c.points_of-points.ensures) (c.requires.covered c.loop-execution.execution low).few

pub returns-in_err-give_patterns : goal.returns-in_err-give_patterns
returns-in_err-give_patterns g c =
    let b = c.args.protocol.now in
    let e = c.loop-execution.execution in
    let patterns = c.args.patterns.now in
    let values = values_in c.args.variables.now.values in
    let low : e < length b.scopes = omega (arith, c.loop-execution-test.true, c.executions-execution-end.ensures.executions) in
    let there : patterns_seen c.index-patterns-simplex.result ≡ patterns_in (map patterns_seen patterns) b e =
    pattern_there patterns_seen patterns b.simplices e c.simplex_of-simplex.result c.index-patterns-simplex.result c.simplex_of-simplex.ensures (c.requires.covered e low).simplex c.index-patterns-simplex.is in
    let f = clauses_at values (map patterns_seen patterns) b in
    let rest = formula_tokens (flat_map f (between_numbers (e + 1) (length b.scopes))) in
    let here : map (denied_at values c.points_of-points.result.now) (patterns_seen c.index-patterns-simplex.result) ≡ f e = λ i. map (denied_at values (c.points_of-points.ensures i)) (there i) in
    let step = next_list_of clause_tokens f e (length b.scopes) low ∙ ap (λ cs. formula_tokens cs ++ rest) (sym here) in
    stopped g.met.K.TokenSink.laws _ _ _ _ _ _ _ _ _ rest _ c.from_residual.result c.from_residual.ensures.0 c.loop-execution.invariant c.in_err-give_patterns.ensures step

pub loop-execution-preserved : goal.loop-execution-preserved
loop-execution-preserved g c =
    let b = c.args.protocol.now in
    let e = c.loop-execution.execution in
    let patterns = c.args.patterns.now in
    let values = values_in c.args.variables.now.values in
    let low : e < length b.scopes = omega (arith, c.loop-execution-test.true, c.executions-execution-end.ensures.executions) in
    let there : patterns_seen c.index-patterns-simplex.result ≡ patterns_in (map patterns_seen patterns) b e =
    pattern_there patterns_seen patterns b.simplices e c.simplex_of-simplex.result c.index-patterns-simplex.result c.simplex_of-simplex.ensures (c.requires.covered e low).simplex c.index-patterns-simplex.is in
    let f = clauses_at values (map patterns_seen patterns) b in
    let rest = formula_tokens (flat_map f (between_numbers (e + 1) (length b.scopes))) in
    let here : map (denied_at values c.points_of-points.result.now) (patterns_seen c.index-patterns-simplex.result) ≡ f e = λ i. map (denied_at values (c.points_of-points.ensures i)) (there i) in
    let step = next_list_of clause_tokens f e (length b.scopes) low ∙ ap (λ cs. formula_tokens cs ++ rest) (sym here) in
    went_on g.met.K.TokenSink.laws _ _ _ _ _ _ _ _ _ rest c.loop-execution.invariant c.in_ok-give_patterns.ensures step

pub returns : goal.returns
returns g c =
    let b = c.args.protocol.now in
    let e = c.loop-execution.execution in
    let f = clauses_at (values_in c.args.variables.now.values) (map patterns_seen c.args.patterns.now) b in
    let all : length b.scopes ≤ e = omega (arith, c.loop-execution-test.false, c.executions-execution-end.ensures.executions) in
    all_taken g.met.K.TokenSink.laws _ _ _ _ _ _ c.loop-execution.invariant (ap (λ ns. formula_tokens (flat_map f ns)) (no_number e (length b.scopes) all))
