use Rattle.std.proofs.Common.{get_or, false, string_bytes, refl, arith}
use Rattle.wf_model.specs.View.{base}
use Rattle.wf_report_explain.proofs.OfArgument.Usage.{one_point}
use Rattle.wf_report_explain.proofs.argument.points.put_points.Goals as goal

pub loop-point-preserved : goal.loop-point-preserved
loop-point-preserved c =
    let n = c.loop-point.point in
    one_point c.args.ranks c.args.marks.now c.args.protocol.now.points n (get_or c.args.marks.now n false) (base 0 0) (string_bytes c.loop-point.text) _ _ (omega (arith, c.loop-point-test.true, c.points-point-end.ensures.points)) refl c.in_ok-put_if.ensures c.loop-point.invariant
