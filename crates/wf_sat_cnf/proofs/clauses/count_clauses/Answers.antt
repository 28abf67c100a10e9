use Rattle.std.proofs.Common.{◌≡◌, ◌+◌, ◌<◌, map, flat_map, length, arith, ap, sym, ◌∙◌}
use Rattle.std.proofs.lemmas.List.{length-map}
use Rattle.wf_model.specs.Lists.{below}
use Rattle.wf_sat_cnf.specs.Patterns.{patterns_seen}
use Rattle.wf_sat_cnf.specs.Clauses.{clauses_at, denied_at, patterns_in, points_in}
use Rattle.wf_sat_cnf.proofs.TextLemmas.{length_more, pattern_there}
use Rattle.wf_sat_cnf.proofs.clauses.count_clauses.Goals as goal

pub loop-execution-preserved : goal.loop-execution-preserved
loop-execution-preserved c = λ values.
    let b = c.args.protocol.now in
    let e = c.loop-execution.execution in
    let patterns = map patterns_seen c.args.patterns.now in
    let f = clauses_at values patterns b in
    let low : e < length b.scopes = omega (arith, c.loop-execution-test.true, c.executions-execution-end.ensures.executions) in
    let there = pattern_there patterns_seen c.args.patterns.now b.simplices e c.simplex_of-simplex.result c.index-patterns-simplex.result c.simplex_of-simplex.ensures (c.requires e low).simplex c.index-patterns-simplex.is in
    let here : length (f e) ≡ c.count.result = length-map (patterns_in patterns b e) (denied_at values (points_in b e)) ∙ ap length (sym there) ∙ sym c.count.ensures in
    let so_far : c.loop-execution.clauses ≡ length b.points + length (flat_map f (below e)) = c.loop-execution.invariant values in
    let more : length (flat_map f (below (e + 1))) ≡ length (flat_map f (below e)) + length (f e) = length_more f e in
    let sum : c.in_ok-clauses.clauses ≡ c.loop-execution.clauses + c.count.result = c.in_ok-clauses.ensures.1 in
    omega (arith, here, so_far, more, sum)
