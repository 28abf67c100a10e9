use Rattle.std.proofs.Common.{◌≡◌, ◌+◌, ◌*◌, ◌≤◌, take}
use Rattle.wf_simplex.specs.Keys.{key_of}
use Rattle.wf_simplex.proofs.simplex.Simplex.of_pairs.Given as goal

abbrev pub invariant-loop-process : goal.invariant-loop-process
invariant-loop-process l = record {
  key : l.key ≡ key_of (take l.process-index l.pairs);
  few : l.key ≤ l.process-index * 68719476736 + 34426978560;
}
