use Rattle.std.proofs.Common.{◌≡◌, ◌<◌, ℕ, length, slice_index}
use Rattle.wf_model.specs.Simplex.{processes_of}
use Rattle.wf_network.proofs.problem.processes.Given as goal

abbrev pub invariant-loop-place : goal.invariant-loop-place
invariant-loop-place l = record {
  long : length l.processes ≡ 4;
  kept : (i : ℕ) → i < l.place → slice_index l.processes i ≡ slice_index (processes_of l.simplex) i;
}
