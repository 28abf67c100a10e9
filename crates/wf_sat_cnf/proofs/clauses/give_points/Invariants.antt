use Rattle.std.proofs.Common.{map}
use Rattle.wf_model.specs.Lists.{below}
use Rattle.wf_base.specs.Set.Sets.{values_in}
use Rattle.wf_sat_formula.specs.Encoding.{at_least_one}
use Rattle.wf_sat_cnf.specs.Tokens.{formula_tokens}
use Rattle.wf_sat_cnf.proofs.PutLemmas.{between_numbers}
use Rattle.wf_sat_cnf.proofs.TakenLemmas.{IsTaken}
use Rattle.wf_sat_cnf.proofs.clauses.give_points.Given as goal

abbrev pub invariant-loop-point : goal.invariant-loop-point
invariant-loop-point g l =
    let f = at_least_one (values_in l.variables.values) in
    IsTaken g.K.TokenSink.takes g.K.TokenSink.is_open l.initial.taker l.initial.to l.taker l.to (formula_tokens (map f (below l.points))) (formula_tokens (map f (between_numbers l.point l.points)))
