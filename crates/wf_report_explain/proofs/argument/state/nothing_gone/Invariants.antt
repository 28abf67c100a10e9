use Rattle.std.proofs.Common.{◌≡◌, [], map, replicate, vec_items}
use Rattle.wf_report_explain.proofs.argument.state.nothing_gone.Given as goal

abbrev pub invariant-loop-point : goal.invariant-loop-point
invariant-loop-point l = map vec_items l.gone.items ≡ replicate l._point []
