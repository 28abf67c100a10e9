use Rattle.std.proofs.Common.{flat_map, map, length}
use Rattle.wf_base.specs.Set.Sets.{values_in}
use Rattle.wf_sat_cnf.specs.Exclusions.{exclusions_at, exclusions_on}
use Rattle.wf_sat_cnf.specs.Tokens.{formula_tokens}
use Rattle.wf_sat_cnf.proofs.PutLemmas.{between_numbers}
use Rattle.wf_sat_cnf.proofs.TakenLemmas.{IsTaken}
use Rattle.wf_sat_cnf.proofs.exclusions.give_exclusions.Given as goal

abbrev pub invariant-loop-point : goal.invariant-loop-point
invariant-loop-point g l =
    let values = values_in l.variables.values in
    let box = map values_in l.sets in
    IsTaken g.K.TokenSink.takes g.K.TokenSink.is_open l.initial.taker l.initial.to l.taker l.to (formula_tokens (exclusions_on values box)) (formula_tokens (flat_map (exclusions_at values box) (between_numbers l.point (length box))))
