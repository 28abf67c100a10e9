use Rattle.std.proofs.Common.{arith}
use Rattle.std.proofs.lemmas.Bool.{and_left, and_right}
use Rattle.wf_model.specs.Box.{has_at}
use Rattle.wf_lane.proofs.WideLaws.{no_value_past, none_added}
use Rattle.wf_lane.proofs.wide.with_value.Goals as goal
use Rattle.wf_lane.proofs.wide.with_value.Goals.{else-is_alive-via-then-is_alive+else-place-size, else-is_alive-via-else-is_alive}

pub returns : goal.returns
returns c = λ v.
    let row = c.args.row.now in
    let there = has_at row c.args.place v in
    none_added _ there c.args.is_alive
    (elim c.else-is_alive.branch [
      | else-is_alive-via-then-is_alive+else-place-size w ↦ and_left there c.args.is_alive (no_value_past row c.args.place v (omega (arith, w.size.ensures.count, w.if-place-size.false)))
      | else-is_alive-via-else-is_alive w ↦ and_right there c.args.is_alive w.if-is_alive.false
    ])
