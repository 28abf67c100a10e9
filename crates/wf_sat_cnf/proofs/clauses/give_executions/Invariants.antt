use Rattle.std.proofs.Common.{map, flat_map, length}
use Rattle.wf_base.specs.Set.Sets.{values_in}
use Rattle.wf_sat_cnf.specs.Patterns.{patterns_seen}
use Rattle.wf_sat_cnf.specs.Clauses.{clauses_at, clauses_on}
use Rattle.wf_sat_cnf.specs.Tokens.{formula_tokens}
use Rattle.wf_sat_cnf.proofs.PutLemmas.{between_numbers}
use Rattle.wf_sat_cnf.proofs.TakenLemmas.{IsTaken}
use Rattle.wf_sat_cnf.proofs.clauses.give_executions.Given as goal

abbrev pub invariant-loop-execution : goal.invariant-loop-execution
invariant-loop-execution g l =
    let values = values_in l.variables.values in
    let patterns = map patterns_seen l.patterns in
    IsTaken g.K.TokenSink.takes g.K.TokenSink.is_open l.initial.taker l.initial.to l.taker l.to (formula_tokens (clauses_on values patterns l.protocol))
    (formula_tokens (flat_map (clauses_at values patterns l.protocol) (between_numbers l.execution (length l.protocol.scopes))))
