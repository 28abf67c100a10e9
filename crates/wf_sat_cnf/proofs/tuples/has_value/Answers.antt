use Rattle.std.proofs.Common.{◌≤◌, length, arith, sym, ◌∙◌}
use Rattle.std.proofs.lemmas.Bool.{le-ltb}
use Rattle.wf_model.proofs.Lemmas.{has_at_past}
use Rattle.wf_sat_cnf.proofs.tuples.has_value.Goals as goal

pub returns-else-place-size : goal.returns-else-place-size
returns-else-place-size c =
    let past : length c.args.tuple.now ≤ c.args.place = omega (arith, c.size.ensures.count, c.if-place-size.false) in
    le-ltb c.args.place c.size.result c.if-place-size.false ∙ sym (has_at_past c.args.tuple.now c.args.place c.args.value past)
