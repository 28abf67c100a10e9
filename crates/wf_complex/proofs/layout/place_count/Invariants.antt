use Rattle.std.proofs.Common.{◌≡◌, ◌≤◌, ◌+◌, drop}
use Rattle.wf_complex.specs.Layout.{execution_total, place_total}
use Rattle.wf_complex.proofs.layout.place_count.Given as goal

abbrev pub invariant-loop-simplex : goal.invariant-loop-simplex
invariant-loop-simplex l = record {
  places : l.places + place_total l.first_block l.rounds (drop l.simplex-index l.inputs) ≡ place_total l.first_block l.rounds l.inputs;
  few : execution_total l.first_block l.rounds (drop l.simplex-index l.inputs) ≤ execution_total l.first_block l.rounds l.inputs;
}
