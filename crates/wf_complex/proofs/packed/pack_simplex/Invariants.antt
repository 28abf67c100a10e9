use Rattle.std.proofs.Common.{◌≡◌, ◌+◌, ◌-◌, ◌*◌, ◌++◌, map}
use Rattle.wf_complex.specs.Layout.{laid_on}
use Rattle.wf_complex.specs.Packed.{packed_on}
use Rattle.wf_complex.proofs.packed.pack_simplex.Given as goal

abbrev pub invariant-loop-turn : goal.invariant-loop-turn
invariant-loop-turn l = record {
  place : l.place ≡ l.run.first + l._turn * l.run.size;
  packed : l.executions.items ++ map (packed_on l.numbers) (laid_on l.run.simplex l.run.size l.place (l.run.count - l._turn)) ≡ l.initial.executions.items ++ map (packed_on l.numbers) (laid_on l.run.simplex l.run.size l.run.first l.run.count);
}
