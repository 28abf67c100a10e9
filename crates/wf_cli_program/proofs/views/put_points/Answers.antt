use Rattle.std.proofs.Common.{string_bytes}
use Rattle.wf_cli_program.proofs.PointLists.{next_point}
use Rattle.wf_cli_program.proofs.views.put_points.Goals as goal

pub loop-point-preserved : goal.loop-point-preserved
loop-point-preserved c =
    next_point c.args.protocol.now.firsts c.loop-point.point c.first_of-execution.result (string_bytes c.loop-point.text) (string_bytes c.put_point.new.text) _ c.first_of-execution.ensures c.in_ok-put_point.ensures c.loop-point.invariant
