use Rattle.std.proofs.Common.{◌≡◌, ◌++◌, string_bytes}
use Rattle.wf_run.proofs.ToldLines.{lines_from}
use Rattle.wf_run.proofs.points.write_points.Given as goal

abbrev pub invariant-loop-point : goal.invariant-loop-point
invariant-loop-point l =
    string_bytes l.text ++ lines_from l.ranks l.map l.point l.protocol.points ≡ string_bytes l.initial.text ++ lines_from l.ranks l.map 0 l.protocol.points
