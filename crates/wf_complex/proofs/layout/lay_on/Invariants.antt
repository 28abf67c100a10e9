use Rattle.std.proofs.Common.{◌≡◌, ◌+◌, ◌-◌, ◌*◌, ◌++◌}
use Rattle.wf_complex.specs.Layout.{laid_on}
use Rattle.wf_complex.proofs.layout.lay_on.Given as goal

abbrev pub invariant-loop-turn : goal.invariant-loop-turn
invariant-loop-turn l = record {
  place : l.place ≡ l.first + l._turn * l.size;
  laid : l.executions.items ++ laid_on l.simplex l.size l.place (l.count - l._turn) ≡ l.initial.executions.items ++ laid_on l.simplex l.size l.first l.count;
}
