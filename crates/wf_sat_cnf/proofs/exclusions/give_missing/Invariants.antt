use Rattle.std.proofs.Common.{map, length}
use Rattle.wf_base.specs.Set.Sets.{values_in}
use Rattle.wf_sat_formula.specs.Branches.{ruled_out}
use Rattle.wf_sat_cnf.specs.Tokens.{formula_tokens}
use Rattle.wf_sat_cnf.proofs.TakenLemmas.{IsTaken}
use Rattle.wf_sat_cnf.proofs.exclusions.give_missing.Given as goal

abbrev pub invariant-values : goal.invariant-values
invariant-values g l =
    let f = ruled_out (values_in l.variables.values) l.point in
    IsTaken g.K.TokenSink.takes g.K.TokenSink.is_open l.initial.taker l.initial.to l.taker l.to (formula_tokens (map f (values_in l.fn.missing))) (formula_tokens (map f (values_in l.left)))

abbrev pub decreases-values : goal.decreases-values
decreases-values g l = length (values_in l.left)
