use Rattle.std.proofs.Common.{All, take}
use Rattle.wf_complex.specs.Places.{EndsBy}
use Rattle.wf_complex.proofs.firsts.execution_from.Given as goal

abbrev pub invariant-loop-number : goal.invariant-loop-number
invariant-loop-number l = All (EndsBy l.place) (take l.number l.executions)
