use Rattle.std.proofs.Common.{◌≡◌, ◌++◌, drop, string_bytes}
use Rattle.wf_cli_program.specs.Views.{appearances_text}
use Rattle.wf_cli_program.proofs.views.put_points.Given as goal

abbrev pub invariant-loop-point : goal.invariant-loop-point
invariant-loop-point l =
    string_bytes l.text ++ appearances_text l.point (drop l.point l.protocol.firsts) ≡ string_bytes l.initial.text ++ appearances_text 0 l.protocol.firsts
