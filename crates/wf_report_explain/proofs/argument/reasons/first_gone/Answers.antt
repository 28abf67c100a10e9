use Rattle.std.proofs.Common.{map, vec_items}
use Rattle.wf_report_explain.proofs.OfArgument.GoneTuples.{none_gone}
use Rattle.wf_report_explain.proofs.argument.reasons.first_gone.Goals as goal

pub returns-then-place-tuple : goal.returns-then-place-tuple
returns-then-place-tuple c = none_gone (map vec_items c.args.gone.now) c.args.points.now c.args.tuple.now c.loop-place.place _ c.if-place-tuple.true c.loop-place.invariant
