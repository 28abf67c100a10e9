use Rattle.std.proofs.Common.{◌≡◌, ◌≤◌, ◌+◌, min, drop}
use Rattle.wf_complex.specs.Layout.{execution_total}
use Rattle.wf_complex.proofs.layout.execution_count.Given as goal

abbrev pub invariant-loop-simplex : goal.invariant-loop-simplex
invariant-loop-simplex l = record {
  small : l.total ≤ 500001;
  rest : min (l.total + execution_total l.first_block l.rounds (drop l.simplex-index l.inputs)) 500001 ≡ min (execution_total l.first_block l.rounds l.inputs) 500001;
}
