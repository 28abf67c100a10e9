use Rattle.std.proofs.Common.{◌≡◌, min}
use Rattle.wf_complex.specs.Layout.{turns}
use Rattle.wf_complex.proofs.layout.executions_on.Given as goal

abbrev pub invariant-loop-round : goal.invariant-loop-round
invariant-loop-round l = l.count ≡ min (turns l.first_block l.size l._round) 500001
