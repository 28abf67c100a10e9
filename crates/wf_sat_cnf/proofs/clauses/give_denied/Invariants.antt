use Rattle.std.proofs.Common.{drop}
use Rattle.wf_base.specs.Set.Sets.{values_in}
use Rattle.wf_sat_cnf.specs.Patterns.{pattern_seen}
use Rattle.wf_sat_cnf.specs.Clauses.{denied_at}
use Rattle.wf_sat_cnf.specs.Tokens.{clause_tokens}
use Rattle.wf_sat_cnf.proofs.TakenLemmas.{IsTaken}
use Rattle.wf_sat_cnf.proofs.clauses.give_denied.Given as goal

abbrev pub invariant-loop-at : goal.invariant-loop-at
invariant-loop-at g l =
    let values = values_in l.variables.values in
    IsTaken g.K.TokenSink.takes g.K.TokenSink.is_open l.initial.taker l.initial.to l.taker l.to (clause_tokens (denied_at values l.points (pattern_seen l.pattern))) (clause_tokens (denied_at values l.points (drop l.at (pattern_seen l.pattern))))
