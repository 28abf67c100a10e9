use Rattle.std.proofs.Common.{◌≤◌, length, arith}
use Rattle.wf_model.specs.Lists.{has}
use Rattle.wf_base.specs.Set.Sets.{values_in}
use Rattle.wf_sat_cnf.proofs.TupleLemmas.{has_no_more}
use Rattle.wf_sat_cnf.proofs.tuples.with_value.Goals as goal

pub returns-else-place-size : goal.returns-else-place-size
returns-else-place-size c = λ v.
    let past : length c.args.tuple.now ≤ c.args.place = omega (arith, c.size.ensures.count, c.if-place-size.false) in
    has_no_more (has (values_in c.args.set) v) c.args.tuple.now c.args.place v past
