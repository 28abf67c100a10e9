use Rattle.std.proofs.Common.{◌≡◌, ◌++◌, drop, string_bytes}
use Rattle.wf_report_explain.specs.Argument.Used.{marked_text}
use Rattle.wf_report_explain.proofs.argument.points.put_points.Given as goal

abbrev pub invariant-loop-point : goal.invariant-loop-point
invariant-loop-point l = string_bytes l.text ++ marked_text l.ranks l.marks l.point (drop l.point l.protocol.points) ≡ string_bytes l.initial.text ++ marked_text l.ranks l.marks 0 l.protocol.points
