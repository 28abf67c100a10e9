use Rattle.std.proofs.Common.{length}
use Rattle.wf_base.specs.Set.Sets.{values_in}
use Rattle.wf_sat_text.specs.Clauses.Formula.{pos}
use Rattle.wf_sat_formula.specs.Encoding.{variable, at_least_one}
use Rattle.wf_sat_cnf.specs.Tokens.{clause_tokens}
use Rattle.wf_sat_cnf.proofs.TakenLemmas.{IsTaken}
use Rattle.std.proofs.Common.{map}
use Rattle.wf_sat_cnf.proofs.clauses.give_point.Given as goal

abbrev pub invariant-values : goal.invariant-values
invariant-values g l =
    let values = values_in l.variables.values in
    IsTaken g.K.TokenSink.takes g.K.TokenSink.is_open l.initial.taker l.initial.to l.taker l.to (clause_tokens (at_least_one values l.point)) (clause_tokens (map (λ a. pos (variable values l.point a)) (values_in l.left)))

abbrev pub decreases-values : goal.decreases-values
decreases-values g l = length (values_in l.left)
