use Rattle.std.proofs.Common.{◌≡◌, ◌<◌, ◌≤◌, length, take, slice_index, vec_capacity, All}
use Rattle.wf_complex.specs.Places.{EndsBy, firsts_at, firsts_in}
use Rattle.wf_complex.proofs.firsts.firsts_of.Given as goal

abbrev pub invariant-loop-place : goal.invariant-loop-place
invariant-loop-place l = record {
  room : length l.places ≤ vec_capacity l.firsts;
  long : length l.firsts.items ≡ l.place-index;
  later : l.place-index < length l.places → All (EndsBy (slice_index l.places l.place-index)) (take l.execution l.executions);
  made : firsts_in l.firsts.items ≡ firsts_at l.inputs l.executions (take l.place-index l.places);
}
