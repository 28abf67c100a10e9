use Rattle.std.proofs.Common.{map, drop}
use Rattle.wf_base.specs.Set.Sets.{values_in}
use Rattle.wf_sat_cnf.specs.Patterns.{pattern_seen}
use Rattle.wf_sat_cnf.specs.Clauses.{denied_at}
use Rattle.wf_sat_cnf.specs.Tokens.{formula_tokens}
use Rattle.wf_sat_cnf.proofs.TakenLemmas.{IsTaken}
use Rattle.wf_sat_cnf.proofs.clauses.give_others.Given as goal

abbrev pub invariant-loop-pattern : goal.invariant-loop-pattern
invariant-loop-pattern g l =
    let f = denied_at (values_in l.variables.values) l.points in
    IsTaken g.K.TokenSink.takes g.K.TokenSink.is_open l.initial.taker l.initial.to l.taker l.to (formula_tokens (map f (map pattern_seen l.patterns))) (formula_tokens (map f (map pattern_seen (drop l.pattern-index l.patterns))))
