use Rattle.std.proofs.Common.{◌≡◌, ◌<◌, length, slice_index}
use Rattle.wf_model.specs.Simplex.{processes_of}
use Rattle.wf_simplex.proofs.KeyLemmas.{vertices_on}
use Rattle.wf_simplex.proofs.simplex.Simplex.colour.Given as goal

abbrev pub invariant-loop-process : goal.invariant-loop-process
invariant-loop-process l = record {
  process : slice_index (processes_of (vertices_on l.self-inside.key l.process)) l.left ≡ slice_index (processes_of l.self) l.place;
  inside : l.left < length (vertices_on l.self-inside.key l.process);
}
