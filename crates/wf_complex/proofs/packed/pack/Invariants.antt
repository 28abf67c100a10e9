use Rattle.std.proofs.Common.{◌≡◌, ◌≤◌, ◌+◌, ◌++◌, drop, map}
use Rattle.wf_complex.specs.Layout.{execution_total, place_total, laid_out}
use Rattle.wf_complex.specs.Packed.{packed_on}
use Rattle.wf_complex.proofs.packed.pack.Given as goal

abbrev pub invariant-loop-number : goal.invariant-loop-number
invariant-loop-number l = record {
  place : l.place + place_total l.first_block l.rounds (drop l.number l.inputs) ≡ place_total l.first_block l.rounds l.inputs;
  few : execution_total l.first_block l.rounds (drop l.number l.inputs) ≤ execution_total l.first_block l.rounds l.inputs;
  packed : l.executions.items ++ map (packed_on l.numbers.items) (laid_out l.first_block l.rounds l.number l.place (drop l.number l.inputs)) ≡ map (packed_on l.numbers.items) (laid_out l.first_block l.rounds 0 0 l.inputs);
}
